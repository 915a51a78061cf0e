-- Runs, functions and bodies: what the table lets pass of them fits.
use Rattle.std.proofs.Common.{◌≡◌, ℕ, ◌+◌, ◌<◌, zero, suc, nat_lt, Bool, true, false, if◌then◌else◌, List, [], ◌∷◌, ◌++◌, length, codes, Ok, Err, refl, sym, ap, ◌∙◌, subst, append_assoc, arith, ◌⊎◌, inl, inr}
use Rattle.std.specs.Str.{bytes_eq}
use Rattle.std.proofs.lemmas.Slice.Eq.{bytes_eq-Decides}
use Rattle.express_lexer.specs.declared.marks.Mark.{Mark}
use Rattle.express_lexer.specs.declared.marks.Mark.TheVariants as marks
use Rattle.express_syntax.specs.Words.{Word, keyword, name, integer, real, string, encoded, binary, mark}
use Rattle.express_syntax.specs.Trees.{Tree}
use Rattle.express_syntax.specs.Grammar.{IsExpression, IsNone}
use Rattle.express_syntax.specs.declared.fault.FaultKind.TheVariants as fault_kinds
use Rattle.express_syntax.specs.Runs as runs
use Rattle.express_syntax.specs.Runs.{Bracket, parenthesis, square, brace, opening, closing, Run, ended, word, bracketed, words_of_run, inside, FitsRun, IsSome, in_brackets, BeginsRoutine, EndsRoutine, words_of_routine}
use Rattle.express_syntax.specs.Schemas.{Body, parsed, set_aside, Bound, value, unlimited, other_bound, Width, width, other_width, Supertype, of_one, of_one_of, of_other}
use Rattle.express_syntax.specs.WrittenSchemas.{words_of_body, words_of_bound, words_of_width, words_of_supertype, words_of_expression}
use Rattle.express_syntax.specs.Profile.{FitsBody, FitsBound, FitsWidth, FitsSupertype, IsBoundText, IsSupertypeText}
use Rattle.express_syntax.specs.steps.Predict.{RunEnd, in_rule, in_lower, in_upper, in_parentheses, ends_part, same_bracket, opened, closed, next_outside, next_mark, opens_routine, closes_routine, left_routine, Running, Routine, Until}
use Rattle.express_syntax.proofs.Decide.{Decided, expression_decided, bound_decided, IsPlainBound, width_decided, supertype_decided}
use Rattle.express_syntax.proofs.SoundTakes.{may_stand, end_mark, OfRun, OfRoutine, Held, Answer, Production, takes_one}

pub is_below : (n levels : ℕ) → nat_lt n levels ≡ true → n < levels
is_below n levels h = grind arith

-- one more word
pub further : (levels : ℕ) (part : RunEnd) (n : ℕ) (inner : List Bracket) (some : Bool) (w : Word) → inside w ≡ true
    → (inner ≡ [] → may_stand part w ≡ true) → (ws : List Word) → OfRun levels part n inner true ws
    → OfRun levels part n inner some (w ∷ ws)
further levels part n [] some w i may ws h = (word w h.0, (i, may refl, h.1), (λ e. tt), ap (λ l. w ∷ l) h.3)
further levels part n (b ∷ inner) some w i may ws h = (word w h.0, h.1, (i, i, h.2), ap (λ l. w ∷ l) h.3, h.4)

-- a bracket that opens
open_run : (levels : ℕ) (part : RunEnd) (n : ℕ) (inner : List Bracket) (some : Bool) (b : Bracket) (ws : List Word)
    → n + length inner < levels → OfRun levels part n (b ∷ inner) true ws → OfRun levels part n inner some
    (opening b ∷ ws)
open_run levels part n [] some b ws d h =
    let k : OfRun levels part n [] true h.1 = h.4 in
    let deep : n < levels = omega (arith, d) in
    let more : n + 1 ≡ n + 1 = refl in
    let P : ℕ → Type 0 = λ m. FitsRun levels inside m h.0 in (
      bracketed b h.0 k.0,
      (deep, subst P (let e : n + suc 0 ≡ n + 1 = omega arith in e) h.2, k.1),
      (λ e. tt),
      ap (λ l. opening b ∷ l) (h.3 ∙ ap (λ l. words_of_run h.0 ++ closing b ∷ l) k.3
          ∙ sym (append_assoc (words_of_run h.0) (closing b ∷ words_of_run k.0) (mark (end_mark part) ∷ []))),
    )
open_run levels part n (c ∷ inner) some b ws d h =
    let k : OfRun levels part n (c ∷ inner) true h.1 = h.4 in
    let deep : n + suc (length inner) < levels = omega (arith, d) in
    let P : ℕ → Type 0 = λ m. FitsRun levels inside m h.0 in (
      bracketed b h.0 k.0,
      k.1,
      (deep, subst P (let e : n + suc (suc (length inner)) ≡ n + suc (length inner) + 1 = omega arith in e) h.2, k.2),
      ap (λ l. opening b ∷ l) (h.3 ∙ ap (λ l. words_of_run h.0 ++ closing b ∷ l) k.3
          ∙ sym (append_assoc (words_of_run h.0) (closing b ∷ words_of_run k.0) (closing c ∷ k.1))),
      k.4,
    )

opened_held : (levels : ℕ) (part : RunEnd) (n : ℕ) (inner : List Bracket) (some : Bool) (b : Bracket)
    → Answer levels (Running part n inner some) (opening b) (opened levels part n inner b)
opened_held levels part n inner some b = by (nat_lt (n + length inner) levels) refl
  where
    by : (t : Bool) → nat_lt (n + length inner) levels ≡ t → Answer levels (Running part n inner some) (opening b)
        (if t then Ok (Running part n (b ∷ inner) true ∷ []) else Err fault_kinds.TooDeep)
    by true e = (
      (tt, tt),
      λ ws h. open_run levels part n inner some b ws (is_below (n + length inner) levels e)
          (takes_one levels (Running part n (b ∷ inner) true) ws h),
    )
    by false e = tt

-- the mark that ends a run
ends_is : (part : RunEnd) (m : Mark) → ends_part part m ≡ true → m ≡ end_mark part
ends_is in_rule marks.Semicolon e = refl
ends_is in_lower marks.Colon e = refl
ends_is in_upper marks.CloseBracket e = refl
ends_is in_parentheses marks.Close e = refl
ends_is _ _ e = absurd cc

stays : (part : RunEnd) (m : Mark) → ends_part part m ≡ false → may_stand part (mark m) ≡ true
stays in_rule marks.Semicolon e = absurd cc
stays in_rule _ e = refl
stays in_lower marks.Colon e = absurd cc
stays in_lower _ e = refl
stays in_upper m e = refl
stays in_parentheses m e = refl

outside_held : (levels : ℕ) (part : RunEnd) (n : ℕ) (some closes : Bool) (m : Mark)
    → (closes ≡ false → inside (mark m) ≡ true) → Answer levels (Running part n [] some) (mark m)
    (next_outside part n some closes m)
outside_held levels part n some closes m plain = by (ends_part part m) some closes refl plain
  where
    by : (t some closes : Bool) → ends_part part m ≡ t → (closes ≡ false → inside (mark m) ≡ true)
        → Answer levels (Running part n [] some) (mark m) (if t then (if some then Ok [] else Err fault_kinds.Expected)
        else (if closes then Err fault_kinds.Expected else Ok (Running part n [] true ∷ [])))
    by true true closes e plain = (tt, λ ws h. (ended, tt, (λ k. absurd cc), (λ i. mark (ends_is part m e i) ∷ h i)))
    by true false closes e plain = tt
    by false some true e plain = tt
    by false some false e plain = (
      (tt, tt),
      λ ws h. further levels part n [] some (mark m) (plain refl)
          (λ k. stays part m e) ws (takes_one levels (Running part n [] true) ws h),
    )

same_bracket_is : (b c : Bracket) → same_bracket b c ≡ true → b ≡ c
same_bracket_is parenthesis parenthesis e = refl
same_bracket_is square square e = refl
same_bracket_is brace brace e = refl
same_bracket_is _ _ e = absurd cc

closed_held : (levels : ℕ) (part : RunEnd) (n : ℕ) (inner : List Bracket) (some : Bool) (b : Bracket) (m : Mark)
    → closing b ≡ mark m → Answer levels (Running part n inner some) (mark m) (closed part n inner some b m)
closed_held levels part n [] some b m is = outside_held levels part n some true m (λ e. absurd cc)
closed_held levels part n (c ∷ inner) some b m is = by (same_bracket b c) refl
  where
    by : (t : Bool) → same_bracket b c ≡ t → Answer levels (Running part n (c ∷ inner) some) (mark m)
        (if t then Ok (Running part n inner true ∷ []) else Err fault_kinds.Expected)
    by true e = (
      (tt, tt),
      λ ws h. (
        ended,
        ws,
        tt,
        ap (λ w. w ∷ ws) (sym is ∙ ap closing (same_bracket_is b c e)),
        takes_one levels (Running part n inner true) ws h,
      ),
    )
    by false e = tt

mark_held : (levels : ℕ) (part : RunEnd) (n : ℕ) (inner : List Bracket) (some : Bool) (m : Mark)
    → inside (mark m) ≡ true → Answer levels (Running part n inner some) (mark m) (next_mark part n inner some m)
mark_held levels part n [] some m plain = outside_held levels part n some false m (λ e. plain)
mark_held levels part n (c ∷ inner) some m plain = (
  (tt, tt),
  λ ws h. further levels part n (c ∷ inner) some (mark m)
      plain (λ e. absurd cc) ws (takes_one levels (Running part n (c ∷ inner) true) ws h),
)

abbrev IsNoMark : Word → Type 0
IsNoMark (mark m) = ⊥
IsNoMark _ = Unit {0}

free : (part : RunEnd) (w : Word) → IsNoMark w → may_stand part w ≡ true
free in_rule (mark m) i = absurd i
free in_rule _ i = refl
free in_lower (mark m) i = absurd i
free in_lower _ i = refl
free in_upper w i = refl
free in_parentheses w i = refl

word_held : (levels : ℕ) (part : RunEnd) (n : ℕ) (inner : List Bracket) (some : Bool) (w : Word) → inside w ≡ true
    → IsNoMark w → Held levels (Running part n inner some) w (Running part n inner true ∷ [])
word_held levels part n inner some w i no_mark = (
  (tt, tt),
  λ ws h. further levels part n inner some w i (λ e. free part w no_mark) ws
      (takes_one levels (Running part n inner true) ws h),
)

pub running_production : (levels : ℕ) (part : RunEnd) (n : ℕ) (inner : List Bracket) (some : Bool) (w : Word)
    → Production levels (Running part n inner some) w
running_production levels part n inner some (mark marks.Open) = opened_held levels part n inner some parenthesis
running_production levels part n inner some (mark marks.OpenBracket) = opened_held levels part n inner some square
running_production levels part n inner some (mark marks.OpenBrace) = opened_held levels part n inner some brace
running_production levels part n inner some (mark marks.Close) = closed_held levels part n inner some parenthesis
    marks.Close refl
running_production levels part n inner some (mark marks.CloseBracket) = closed_held levels part n inner some square
    marks.CloseBracket refl
running_production levels part n inner some (mark marks.CloseBrace) = closed_held levels part n inner some brace
    marks.CloseBrace refl
running_production levels part n inner some (mark m) = mark_held levels part n inner some m refl
running_production levels part n inner some (keyword k) = word_held levels part n inner some (keyword k) refl tt
running_production levels part n inner some (name t) = word_held levels part n inner some (name t) refl tt
running_production levels part n inner some (integer t) = word_held levels part n inner some (integer t) refl tt
running_production levels part n inner some (real t) = word_held levels part n inner some (real t) refl tt
running_production levels part n inner some (string t) = word_held levels part n inner some (string t) refl tt
running_production levels part n inner some (encoded t) = word_held levels part n inner some (encoded t) refl tt
running_production levels part n inner some (binary t) = word_held levels part n inner some (binary t) refl tt

-- functions
one_of_two : (m s t : List ℕ) → (if bytes_eq m s then true else bytes_eq m t) ≡ true → (name m ≡ name s)
    ⊎ (name m ≡ name t)
one_of_two m s t h = by (bytes_eq m s) refl h
  where
    by : (b : Bool) → bytes_eq m s ≡ b → (if b then true else bytes_eq m t) ≡ true → (name m ≡ name s)
        ⊎ (name m ≡ name t)
    by true e h = inl (ap name ((bytes_eq-Decides m s).0 e))
    by false e h = inr (ap name ((bytes_eq-Decides m t).0 h))

name_is : (m s : List ℕ) → name m ≡ name s → m ≡ s
name_is m s e = cc

none_of_two : (m s t : List ℕ) → (if bytes_eq m s then true else bytes_eq m t) ≡ false → (name m ≡ name s)
    ⊎ (name m ≡ name t) → ⊥
none_of_two m s t h k = by (bytes_eq m s) refl h k
  where
    by : (b : Bool) → bytes_eq m s ≡ b → (if b then true else bytes_eq m t) ≡ false → (name m ≡ name s)
        ⊎ (name m ≡ name t) → ⊥
    by true e h k = cc
    by false e h (inl k) = let d : bytes_eq m s ≡ true = (bytes_eq-Decides m s).1 (name_is m s k) in cc
    by false e h (inr k) = let d : bytes_eq m t ≡ true = (bytes_eq-Decides m t).1 (name_is m t k) in cc

nest : (n : ℕ) (w : Word) → BeginsRoutine w → (ws : List Word) → OfRoutine (suc n) ws → OfRoutine n (w ∷ ws)
nest zero w b ws h =
    let k : OfRoutine zero h.1 = h.4 in
    (runs.nested w h.0 k.0, (b, h.2, k.1), ap (λ l. w ∷ l) (h.3 ∙ ap (λ l. words_of_routine h.0 ++ l) k.2))
nest (suc n) w b ws h =
    let k : OfRoutine (suc n) h.1 = h.4 in (
      runs.nested w h.0 k.0,
      k.1,
      (b, h.2, k.2),
      ap (λ l. w ∷ l) (h.3 ∙ ap (λ l. words_of_routine h.0 ++ l) k.3
          ∙ sym (append_assoc (words_of_routine h.0) (words_of_routine k.0) k.1)),
      k.4,
    )

goes_on : (n : ℕ) (w : Word) → (BeginsRoutine w → ⊥) → (EndsRoutine w → ⊥) → (ws : List Word) → OfRoutine n ws
    → OfRoutine n (w ∷ ws)
goes_on zero w b e ws h = (runs.further w h.0, (b, e, h.1), ap (λ l. w ∷ l) h.2)
goes_on (suc n) w b e ws h = (runs.further w h.0, h.1, (b, e, h.2), ap (λ l. w ∷ l) h.3, h.4)

left_held : (levels n : ℕ) (w : Word) → EndsRoutine w → Held levels (Routine n) w (left_routine n)
left_held levels zero w e = (tt, λ ws h. (runs.ending w, e, ap (λ l. w ∷ l) h))
left_held levels (suc n) w e = ((tt, tt), λ ws h. (runs.ending w, ws, e, refl, takes_one levels (Routine n) ws h))

routine_named : (levels n : ℕ) (m : List ℕ) → Production levels (Routine n) (name m)
routine_named levels n m = by (opens_routine m) (closes_routine m) refl refl
  where
    by : (a b : Bool) → opens_routine m ≡ a → closes_routine m ≡ b → Answer levels (Routine n) (name m)
        (if a then Ok (Routine (n + 1) ∷ []) else (if b then Ok (left_routine n) else Ok (Routine n ∷ [])))
    by true b e f = (
      (tt, tt),
      λ ws h.
          let P : ℕ → Type 0 = λ k. OfRoutine k ws in
          nest n (name m) (one_of_two m (codes "FUNCTION") (codes "PROCEDURE") e) ws
          (subst P (let d : n + 1 ≡ suc n = omega arith in d) (takes_one levels (Routine (n + 1)) ws h)),
    )
    by false true e f = left_held levels n (name m) (one_of_two m (codes "END_FUNCTION") (codes "END_PROCEDURE") f)
    by false false e f = (
      (tt, tt),
      λ ws h. goes_on n (name m) (none_of_two m (codes "FUNCTION") (codes "PROCEDURE") e)
          (none_of_two m (codes "END_FUNCTION") (codes "END_PROCEDURE") f) ws (takes_one levels (Routine n) ws h),
    )

no_names : (w : Word) (s t : List ℕ) → ((r : List ℕ) → w ≡ name r → ⊥) → (w ≡ name s) ⊎ (w ≡ name t) → ⊥
no_names w s t f (inl e) = f s e
no_names w s t f (inr e) = f t e

routine_held : (levels n : ℕ) (w : Word) → ((r : List ℕ) → w ≡ name r → ⊥) → Held levels (Routine n) w (Routine n ∷ [])
routine_held levels n w f = (
  (tt, tt),
  λ ws h. goes_on n w (no_names w (codes "FUNCTION") (codes "PROCEDURE") f)
      (no_names w (codes "END_FUNCTION") (codes "END_PROCEDURE") f) ws (takes_one levels (Routine n) ws h),
)

pub routine_production : (levels n : ℕ) (w : Word) → Production levels (Routine n) w
routine_production levels n (name m) = routine_named levels n m
routine_production levels n (keyword k) = routine_held levels n (keyword k) (λ r e. cc)
routine_production levels n (integer t) = routine_held levels n (integer t) (λ r e. cc)
routine_production levels n (real t) = routine_held levels n (real t) (λ r e. cc)
routine_production levels n (string t) = routine_held levels n (string t) (λ r e. cc)
routine_production levels n (encoded t) = routine_held levels n (encoded t) (λ r e. cc)
routine_production levels n (binary t) = routine_held levels n (binary t) (λ r e. cc)
routine_production levels n (mark m) = routine_held levels n (mark m) (λ r e. cc)

-- words up to one
until_held : (levels : ℕ) (end : List ℕ) (w : Word) → (w ≡ name end → ⊥) → Held levels (Until end) w (Until end ∷ [])
until_held levels end w f = (
  (tt, tt),
  λ ws h. let k = takes_one levels (Until end) ws h in
      (w ∷ k.0, (f, k.1), ap (λ l. w ∷ l) k.2),
)

until_named : (levels : ℕ) (end m : List ℕ) → Production levels (Until end) (name m)
until_named levels end m = by (bytes_eq m end) refl
  where
    by : (b : Bool) → bytes_eq m end ≡ b → Answer levels (Until end) (name m) (if b then Ok [] else Ok (Until end ∷ []))
    by true e = (tt, λ ws h. ([], tt, (λ i. name ((bytes_eq-Decides m end).0 e i) ∷ h i)))
    by false e = until_held levels end (name m) (λ k. let d : bytes_eq m end ≡ true = (bytes_eq-Decides m end).1
        (name_is m end k) in cc)

pub until_production : (levels : ℕ) (end : List ℕ) (w : Word) → Production levels (Until end) w
until_production levels end (name m) = until_named levels end m
until_production levels end (keyword k) = until_held levels end (keyword k) (λ e. cc)
until_production levels end (integer t) = until_held levels end (integer t) (λ e. cc)
until_production levels end (real t) = until_held levels end (real t) (λ e. cc)
until_production levels end (string t) = until_held levels end (string t) (λ e. cc)
until_production levels end (encoded t) = until_held levels end (encoded t) (λ e. cc)
until_production levels end (binary t) = until_held levels end (binary t) (λ e. cc)
until_production levels end (mark m) = until_held levels end (mark m) (λ e. cc)

-- a run is an expression, or it is set aside
pub body_of : (levels : ℕ) (r : Run) → FitsRun levels runs.in_rule 0 r → IsSome r → (b : Body) × FitsBody levels b
    × (words_of_body b ≡ words_of_run r)
body_of levels r f s = by (expression_decided 0 (words_of_run r))
  where
    by : ((x : Tree) × IsExpression 0 (words_of_run r) x) ⊎ IsNone 0 (words_of_run r) → (b : Body) × FitsBody levels b
        × (words_of_body b ≡ words_of_run r)
    by (inl h) = (parsed h.0, h.1.fits, sym h.1.spelled)
    by (inr g) = (set_aside r, (f, s, g), refl)

plain_fits : (levels : ℕ) (may : Word → Bool) (n : ℕ) (b : Bound) → IsPlainBound b → FitsBound levels may n b
plain_fits levels may n (value s t) i = tt
plain_fits levels may n unlimited i = tt
plain_fits levels may n (other_bound r) i = absurd i

-- a run is the text of a bound
pub bound_of : (levels : ℕ) (may : Word → Bool) (n : ℕ) (r : Run) → FitsRun levels may n r → IsSome r → (b : Bound)
    × FitsBound levels may n b × (words_of_bound b ≡ words_of_run r)
bound_of levels may n r f s = by (bound_decided (words_of_run r))
  where
    by : ((b : Bound) × IsPlainBound b × (words_of_bound b ≡ words_of_run r)) ⊎ (IsBoundText (words_of_run r) → ⊥)
        → (b : Bound) × FitsBound levels may n b × (words_of_bound b ≡ words_of_run r)
    by (inl h) = (h.0, plain_fits levels may n h.0 h.1, h.2)
    by (inr g) = (other_bound r, (f, s, g), refl)

-- a run is the text of a width
pub width_of : (levels n : ℕ) (r : Run) → n < levels → FitsRun levels in_brackets (n + 1) r → IsSome r → (w : Width)
    × FitsWidth levels n w × (words_of_width w ≡ mark marks.Open ∷ (words_of_run r ++ mark marks.Close ∷ []))
width_of levels n r d f s = by (width_decided (words_of_run r))
  where
    by : ((t : List ℕ) × (words_of_run r ≡ integer t ∷ [])) ⊎ ((t : List ℕ) → words_of_run r ≡ integer t ∷ [] → ⊥)
        → (w : Width) × FitsWidth levels n w
        × (words_of_width w ≡ mark marks.Open ∷ (words_of_run r ++ mark marks.Close ∷ []))
    by (inl h) = (width h.0, d, ap (λ l. mark marks.Open ∷ (l ++ mark marks.Close ∷ [])) (sym h.1))
    by (inr g) = (other_width r, (d, f, s, g), refl)

-- a run is the text of a supertype expression
pub supertype_of : (levels : ℕ) (r : Run) → FitsRun levels in_brackets 1 r → IsSome r → (s : Supertype)
    × FitsSupertype levels s × (words_of_supertype s ≡ words_of_expression (words_of_run r))
supertype_of levels r f s = by (supertype_decided (words_of_run r))
  where
    by : Decided (IsSupertypeText (words_of_run r)) → (s : Supertype) × FitsSupertype levels s
        × (words_of_supertype s ≡ words_of_expression (words_of_run r))
    by (inl (inl h)) = (of_one h.0, tt, ap words_of_expression (sym h.1))
    by (inl (inr h)) = (of_one_of h.0, h.1, ap words_of_expression (sym h.2))
    by (inr g) = (of_other r, (f, s, g), refl)
