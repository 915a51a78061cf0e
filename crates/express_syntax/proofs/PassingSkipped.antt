-- The words of a skipped declaration lead to its semicolon: functions and procedures nest, and the others run to
-- the word that ends them.
use Rattle.std.proofs.Common.{◌≡◌, ℕ, suc, ◌+◌, Bool, true, false, List, [], ◌∷◌, ◌++◌, Ok, refl, sym, ap, subst, codes, inl, inr, arith}
use Rattle.std.specs.Str.{bytes_eq}
use Rattle.std.proofs.lemmas.Slice.Eq.{bytes_eq-Decides}
use Rattle.express_lexer.specs.declared.marks.Mark.TheVariants as marks
use Rattle.express_syntax.specs.Words.{Word, name, mark}
use Rattle.express_syntax.specs.Texts.{token}
use Rattle.express_syntax.specs.Runs.{Routine, ending, further, nested, words_of_routine, BeginsRoutine, EndsRoutine, FitsRoutine}
use Rattle.express_syntax.specs.Schemas.{Skipped, function, procedure, rule, constants, subtype_constraint}
use Rattle.express_syntax.specs.WrittenSchemas.{words_of_skipped}
use Rattle.express_syntax.specs.Profile.{IsWithout, FitsSkipped}
use Rattle.express_syntax.specs.steps.Predict.{Symbol, Declarations, SkippedName, SkippedEnd, Until, left_routine, next}
use Rattle.express_syntax.specs.steps.Predict as predict
use Rattle.express_syntax.proofs.Passing.{Goal, Led, step, regroup, same_bytes}

other_bytes : (a b : List ℕ) → (a ≡ b → ⊥) → bytes_eq a b ≡ false
other_bytes a b f = by (bytes_eq a b) refl
  where
    by : (r : Bool) → bytes_eq a b ≡ r → bytes_eq a b ≡ false
    by true e = absurd (f ((bytes_eq-Decides a b).0 e))
    by false e = e

next_ending : (levels n : ℕ) (w : Word) → EndsRoutine w → next levels (predict.Routine n) (token w) ≡ Ok
    (left_routine n)
next_ending levels n w (inl e) = ap (λ v. next levels (predict.Routine n) (token v)) e
next_ending levels n w (inr e) = ap (λ v. next levels (predict.Routine n) (token v)) e

next_beginning : (levels n : ℕ) (w : Word) → BeginsRoutine w → next levels (predict.Routine n) (token w) ≡ Ok
    (predict.Routine (n + 1) ∷ [])
next_beginning levels n w (inl e) = ap (λ v. next levels (predict.Routine n) (token v)) e
next_beginning levels n w (inr e) = ap (λ v. next levels (predict.Routine n) (token v)) e

next_further : (levels n : ℕ) (w : Word) → (BeginsRoutine w → ⊥) → (EndsRoutine w → ⊥) → next levels (predict.Routine n)
    (token w) ≡ Ok (predict.Routine n ∷ [])
next_further levels n (name m) f k =
    let a = other_bytes m (codes "FUNCTION") (λ e. f (inl (ap name e))) in
    let b = other_bytes m (codes "PROCEDURE") (λ e. f (inr (ap name e))) in
    let c = other_bytes m (codes "END_FUNCTION") (λ e. k (inl (ap name e))) in
    let d = other_bytes m (codes "END_PROCEDURE") (λ e. k (inr (ap name e))) in
    rw (a, b, c, d) refl
next_further levels n w f k = refl

left_more : (n : ℕ) → left_routine (n + 1) ≡ predict.Routine n ∷ []
left_more n = let e : n + 1 ≡ suc n = omega arith in ap left_routine e

-- a function or procedure behind its name, with so many others open
pub pass_routine : (g : Goal) (r : Routine) (n : ℕ) (ys : List Symbol) (ws : List Word) → FitsRoutine r
    → Led g (left_routine n ++ ys) ws → Led g (predict.Routine n ∷ ys) (words_of_routine r ++ ws)
pass_routine g (ending w) n ys ws f h = step g (predict.Routine n) (left_routine n) ys w ws (next_ending g.levels n w f)
    h
pass_routine g (further w r) n ys ws f h =
    step g (predict.Routine n) (predict.Routine n ∷ []) ys w (words_of_routine r ++ ws)
    (next_further g.levels n w f.0 f.1) (pass_routine g r n ys ws f.2 h)
pass_routine g (nested w inner r) n ys ws f h =
    let more = words_of_routine r ++ ws in
    let P : List Symbol → Type 0 = λ l. Led g (l ++ ys) more in
    step g (predict.Routine n) (predict.Routine (n + 1) ∷ []) ys w ((words_of_routine inner ++ words_of_routine r)
    ++ ws) (next_beginning g.levels n w f.0)
    (regroup g (predict.Routine (n + 1) ∷ ys) (words_of_routine inner) (words_of_routine r) ws
    (pass_routine g inner (n + 1) ys more f.1 (subst P (sym (left_more n)) (pass_routine g r n ys ws f.2 h))))

next_until_end : (levels : ℕ) (end : List ℕ) → next levels (Until end) (token (name end)) ≡ Ok []
next_until_end levels end = rw (same_bytes end end refl) refl

next_until_other : (levels : ℕ) (end : List ℕ) (w : Word) → (w ≡ name end → ⊥) → next levels (Until end) (token w) ≡ Ok
    (Until end ∷ [])
next_until_other levels end (name m) f = rw (other_bytes m end (λ e. f (ap name e))) refl
next_until_other levels end w f = refl

-- words up to the one that ends them
pub pass_until : (g : Goal) (end : List ℕ) (us : List Word) (ys : List Symbol) (ws : List Word) → IsWithout end us
    → Led g ys ws → Led g (Until end ∷ ys) (us ++ name end ∷ ws)
pass_until g end [] ys ws f h = step g (Until end) [] ys (name end) ws (next_until_end g.levels end) h
pass_until g end (w ∷ us) ys ws f h = step g (Until end) (Until end ∷ []) ys w (us ++ name end ∷ ws)
    (next_until_other g.levels end w f.0) (pass_until g end us ys ws f.1 h)

-- words up to the one that ends them, and the semicolon after it
pub until_end : (g : Goal) (end : List ℕ) (us : List Word) (ys : List Symbol) (ws : List Word) → IsWithout end us
    → Led g ys ws → Led g (Until end ∷ SkippedEnd ∷ ys) ((us ++ name end ∷ mark marks.Semicolon ∷ []) ++ ws)
until_end g end us ys ws f h =
    regroup g (Until end ∷ SkippedEnd ∷ ys) us (name end ∷ mark marks.Semicolon ∷ []) ws
    (pass_until g end us (SkippedEnd ∷ ys) (mark marks.Semicolon ∷ ws) f (step g SkippedEnd [] ys (mark marks.Semicolon)
    ws refl h))

-- words after the name of the declaration, up to the one that ends them, and the semicolon
pub named_until : (g : Goal) (n end : List ℕ) (us : List Word) (ys : List Symbol) (ws : List Word) → IsWithout end us
    → Led g ys ws → Led g (SkippedName ∷ Until end ∷ SkippedEnd ∷ ys)
    (name n ∷ (us ++ name end ∷ mark marks.Semicolon ∷ []) ++ ws)
named_until g n end us ys ws f h = step g SkippedName [] (Until end ∷ SkippedEnd ∷ ys) (name n)
    ((us ++ name end ∷ mark marks.Semicolon ∷ []) ++ ws) refl (until_end g end us ys ws f h)

pub named_routine : (g : Goal) (n : List ℕ) (r : Routine) (ys : List Symbol) (ws : List Word) → FitsRoutine r
    → Led g ys ws
    → Led g (SkippedName ∷ predict.Routine 0 ∷ SkippedEnd ∷ ys)
    (name n ∷ (words_of_routine r ++ mark marks.Semicolon ∷ []) ++ ws)
named_routine g n r ys ws f h =
    step g SkippedName [] (predict.Routine 0 ∷ SkippedEnd ∷ ys) (name n)
    ((words_of_routine r ++ mark marks.Semicolon ∷ []) ++ ws) refl
    (regroup g (predict.Routine 0 ∷ SkippedEnd ∷ ys) (words_of_routine r) (mark marks.Semicolon ∷ []) ws
    (pass_routine g r 0 (SkippedEnd ∷ ys) (mark marks.Semicolon ∷ ws) f (step g SkippedEnd [] ys (mark marks.Semicolon)
    ws refl h)))

-- a skipped declaration
pub pass_skipped : (g : Goal) (s : Skipped) (ys : List Symbol) (ws : List Word) → FitsSkipped s
    → Led g (Declarations ∷ ys) ws → Led g (Declarations ∷ ys) (words_of_skipped s ++ ws)
pass_skipped g (function n r) ys ws f h =
    step g Declarations (SkippedName ∷ predict.Routine 0 ∷ SkippedEnd ∷ Declarations ∷ []) ys (name (codes "FUNCTION"))
    (name n ∷ (words_of_routine r ++ mark marks.Semicolon ∷ []) ++ ws) refl
    (named_routine g n r (Declarations ∷ ys) ws f h)
pass_skipped g (procedure n r) ys ws f h =
    step g Declarations (SkippedName ∷ predict.Routine 0 ∷ SkippedEnd ∷ Declarations ∷ []) ys (name (codes "PROCEDURE"))
    (name n ∷ (words_of_routine r ++ mark marks.Semicolon ∷ []) ++ ws) refl
    (named_routine g n r (Declarations ∷ ys) ws f h)
pass_skipped g (rule n us) ys ws f h =
    let end = codes "END_RULE" in
    step g Declarations (SkippedName ∷ Until end ∷ SkippedEnd ∷ Declarations ∷ []) ys (name (codes "RULE"))
    (name n ∷ (us ++ name end ∷ mark marks.Semicolon ∷ []) ++ ws) refl
    (named_until g n end us (Declarations ∷ ys) ws f h)
pass_skipped g (constants us) ys ws f h =
    let end = codes "END_CONSTANT" in
    step g Declarations (Until end ∷ SkippedEnd ∷ Declarations ∷ []) ys (name (codes "CONSTANT"))
    ((us ++ name end ∷ mark marks.Semicolon ∷ []) ++ ws) refl
    (until_end g end us (Declarations ∷ ys) ws f h)
pass_skipped g (subtype_constraint n us) ys ws f h =
    let end = codes "END_SUBTYPE_CONSTRAINT" in
    step g Declarations (SkippedName ∷ Until end ∷ SkippedEnd ∷ Declarations ∷ []) ys
    (name (codes "SUBTYPE_CONSTRAINT")) (name n ∷ (us ++ name end ∷ mark marks.Semicolon ∷ []) ++ ws) refl
    (named_until g n end us (Declarations ∷ ys) ws f h)
