-- Why something can't be next, whatever is to come, and what may stand in the place of a declaration.
use Rattle.std.proofs.Common.{◌≡◌, ℕ, zero, suc, ◌+◌, ◌<◌, Bool, true, false, if◌then◌else◌, List, [], ◌∷◌, ◌++◌, codes, Ok, Err, MatchResult, refl, sym, ap, ◌∙◌, subst, append_assoc}
use Rattle.std.specs.Str.{bytes_eq}
use Rattle.std.proofs.lemmas.Slice.Eq.{bytes_eq-Decides}
use Rattle.parsing.specs.Languages.{AllAre}
use Rattle.parsing.proofs.Lists.{all_append}
use Rattle.parsing.proofs.Leading.{Leads}
use Rattle.express_lexer.specs.declared.marks.Mark.TheVariants as marks
use Rattle.express_syntax.specs.declared.keyword.Keyword.TheVariants as keywords
use Rattle.express_syntax.specs.Words.{Word, keyword, name, mark}
use Rattle.express_syntax.specs.declared.fault.FaultKind.{FaultKind}
use Rattle.express_syntax.specs.declared.fault.FaultKind.TheVariants as fault_kinds
use Rattle.express_syntax.specs.Runs as runs
use Rattle.express_syntax.specs.Runs.{words_of_routine, FitsRoutine}
use Rattle.express_syntax.specs.Schemas.{Skipped, function, procedure, rule, constants, subtype_constraint}
use Rattle.express_syntax.specs.WrittenSchemas.{words_of_skipped}
use Rattle.express_syntax.specs.Profile.{IsWithout, FitsSkipped}
use Rattle.express_syntax.specs.Texts.{Lookahead, token, flawed, end_of_text}
use Rattle.express_syntax.specs.steps.Predict.{explicits, Symbol, Just, Id, Declarations, EndOfText, SkippedName, SkippedEnd, Routine, Until, Underlying, TypeEnd, Head, Body, refused, Next, opens_routine, closes_routine, left_routine, next_routine, next_until, next_skipped_name, next_skipped_end, next_end_of_text, next_declaration, skipped_symbols, next}
use Rattle.express_syntax.proofs.SoundTakes.{Takes, AllTake, takes_one}
use Rattle.express_syntax.proofs.Refusals.{IsRead, Place, in_schema, in_skipped, Told, Answer, quiet, refusal, read_answer}

-- a symbol of a skipped declaration
abbrev pub IsSkipping : Symbol → Type 0
IsSkipping SkippedName = Unit {0}
IsSkipping SkippedEnd = Unit {0}
IsSkipping (Routine n) = Unit {0}
IsSkipping (Until end) = Unit {0}
IsSkipping _ = ⊥

abbrev pub place_of : Symbol → Place
place_of SkippedName = in_skipped
place_of SkippedEnd = in_skipped
place_of (Routine n) = in_skipped
place_of (Until end) = in_skipped
place_of _ = in_schema

-- no more brackets are open around it than may be
abbrev pub IsShallow : ℕ → Symbol → Type 0
IsShallow levels Declarations = Unit {0}
IsShallow levels EndOfText = Unit {0}
IsShallow levels SkippedName = Unit {0}
IsShallow levels SkippedEnd = Unit {0}
IsShallow levels (Routine n) = Unit {0}
IsShallow levels (Until end) = Unit {0}
IsShallow levels y = IsRead levels y

-- the sorts of symbols
data Sort (levels : ℕ) (y : Symbol) : Type 0 where
  reading : IsRead levels y → place_of y ≡ in_schema → Sort levels y
  skipping : IsSkipping y → place_of y ≡ in_skipped → Sort levels y
  declaring : y ≡ Declarations → Sort levels y
  ending : y ≡ EndOfText → Sort levels y

sort : (levels : ℕ) (y : Symbol) → IsShallow levels y → Sort levels y
sort levels Declarations h = declaring refl
sort levels EndOfText h = ending refl
sort levels SkippedName h = skipping tt refl
sort levels SkippedEnd h = skipping tt refl
sort levels (Routine n) h = skipping tt refl
sort levels (Until end) h = skipping tt refl
sort levels y h = reading h refl

read_shallow : (levels : ℕ) (y : Symbol) → IsRead levels y → IsShallow levels y
read_shallow levels Declarations h = tt
read_shallow levels EndOfText h = tt
read_shallow levels SkippedName h = tt
read_shallow levels SkippedEnd h = tt
read_shallow levels (Routine n) h = tt
read_shallow levels (Until end) h = tt
read_shallow levels y h = h

skipping_shallow : (levels : ℕ) (y : Symbol) → IsSkipping y → IsShallow levels y
skipping_shallow levels SkippedName h = tt
skipping_shallow levels SkippedEnd h = tt
skipping_shallow levels (Routine n) h = tt
skipping_shallow levels (Until end) h = tt
skipping_shallow levels y h = absurd h

pub skipping_place : (y : Symbol) → IsSkipping y → place_of y ≡ in_skipped
skipping_place SkippedName h = refl
skipping_place SkippedEnd h = refl
skipping_place (Routine n) h = refl
skipping_place (Until end) h = refl
skipping_place y h = absurd h

-- no symbol is both read and skipped
pub read_or_skipping : (levels : ℕ) (y : Symbol) → IsRead levels y → IsSkipping y → ⊥
read_or_skipping levels SkippedName h g = h
read_or_skipping levels SkippedEnd h g = h
read_or_skipping levels (Routine n) h g = h
read_or_skipping levels (Until end) h g = h
read_or_skipping levels y h g = g

all_are : (P Q : Symbol → Type 0) → ((y : Symbol) → P y → Q y) → (ys : List Symbol) → AllAre P ys → AllAre Q ys
all_are P Q f [] h = tt
all_are P Q f (y ∷ ys) h = (f y h.0, all_are P Q f ys h.1)

-- skipped declarations
abbrev Skips : (ℕ → Next) → ℕ → Lookahead → Next → Type 0
Skips f levels s v = MatchResult v (λ zs. AllAre IsSkipping zs × (f (levels + 1) ≡ Ok zs)) (Told in_skipped f levels s)

name_skips : (levels : ℕ) (s : Lookahead) → Skips (λ l. next_skipped_name s) levels s (next_skipped_name s)
name_skips levels (token (name n)) = (tt, refl)
name_skips levels flawed = (refl, refl)
name_skips levels s = (((λ e. cc), λ part h. h), refl)

end_skips : (levels : ℕ) (s : Lookahead) → Skips (λ l. next_skipped_end s) levels s (next_skipped_end s)
end_skips levels (token (mark marks.Semicolon)) = (tt, refl)
end_skips levels flawed = (refl, refl)
end_skips levels s = (((λ e. cc), λ part h. h), refl)

left_skips : (n : ℕ) → AllAre IsSkipping (left_routine n)
left_skips zero = tt
left_skips (suc n) = (tt, tt)

routine_skips : (levels n : ℕ) (s : Lookahead) → Skips (λ l. next_routine n s) levels s (next_routine n s)
routine_skips levels n (token (name m)) = by (opens_routine m) (closes_routine m)
  where
    by : (a b : Bool) → Skips (λ l. if a then Ok (Routine (n + 1) ∷ []) else
        (if b then Ok (left_routine n) else Ok (Routine n ∷ []))) levels (token (name m))
        (if a then Ok (Routine (n + 1) ∷ []) else (if b then Ok (left_routine n) else Ok (Routine n ∷ [])))
    by true b = ((tt, tt), refl)
    by false true = (left_skips n, refl)
    by false false = ((tt, tt), refl)
routine_skips levels n (token w) = ((tt, tt), refl)
routine_skips levels n flawed = (refl, refl)
routine_skips levels n end_of_text = (((λ e. cc), λ part h. h), refl)

until_skips : (levels : ℕ) (end : List ℕ) (s : Lookahead) → Skips (λ l. next_until end s) levels s (next_until end s)
until_skips levels end (token (name m)) = by (bytes_eq m end)
  where
    by : (b : Bool) → Skips (λ l. if b then Ok [] else Ok (Until end ∷ [])) levels (token (name m))
        (if b then Ok [] else Ok (Until end ∷ []))
    by true = (tt, refl)
    by false = ((tt, tt), refl)
until_skips levels end (token w) = ((tt, tt), refl)
until_skips levels end flawed = (refl, refl)
until_skips levels end end_of_text = (((λ e. cc), λ part h. h), refl)

pub skips : (levels : ℕ) (y : Symbol) → IsSkipping y → (s : Lookahead) → Skips (λ l. next l y s) levels s
    (next levels y s)
skips levels SkippedName h s = name_skips levels s
skips levels SkippedEnd h s = end_skips levels s
skips levels (Routine n) h s = routine_skips levels n s
skips levels (Until end) h s = until_skips levels end s
skips levels y h s = absurd h

-- what the symbols of a function or procedure take
routine_taken : (levels : ℕ) (ws : List Word) → AllTake levels (SkippedName ∷ Routine 0 ∷ SkippedEnd ∷ []) ws
    → (n : List ℕ) × (r : runs.Routine) × FitsRoutine r
    × (ws ≡ name n ∷ (words_of_routine r ++ mark marks.Semicolon ∷ []))
routine_taken levels ws h =
    let a : Takes levels SkippedName h.0 = h.2 in
    let k : AllTake levels (Routine 0 ∷ SkippedEnd ∷ []) h.1 = h.3 in
    let r : Takes levels (Routine 0) k.0 = k.2 in
    let e : Takes levels SkippedEnd k.1 = takes_one levels SkippedEnd k.1 k.3 in
    (a.0, r.0, r.1, h.4 ∙ (λ i. a.1 i ++ (k.4 ∙ (λ j. r.2 j ++ e j)) i))

until_taken : (levels : ℕ) (end : List ℕ) (ws : List Word) → AllTake levels (Until end ∷ SkippedEnd ∷ []) ws
    → (us : List Word) × IsWithout end us × (ws ≡ us ++ name end ∷ mark marks.Semicolon ∷ [])
until_taken levels end ws h =
    let r : Takes levels (Until end) h.0 = h.2 in
    let e : Takes levels SkippedEnd h.1 = takes_one levels SkippedEnd h.1 h.3 in
    (r.0, r.1, h.4 ∙ (λ i. r.2 i ++ e i) ∙ append_assoc r.0 (name end ∷ []) (mark marks.Semicolon ∷ []))

named_taken : (levels : ℕ) (end : List ℕ) (ws : List Word) → AllTake levels (SkippedName ∷ Until end ∷ SkippedEnd ∷ [])
    ws → (n : List ℕ) × (us : List Word) × IsWithout end us
    × (ws ≡ name n ∷ (us ++ name end ∷ mark marks.Semicolon ∷ []))
named_taken levels end ws h =
    let a : Takes levels SkippedName h.0 = h.2 in
    let u = until_taken levels end h.1 h.3 in
    (a.0, u.0, u.1, h.4 ∙ (λ i. a.1 i ++ u.2 i))

-- these symbols take what stands behind the first word of a skipped declaration
abbrev pub TakesSkipped : ℕ → List ℕ → List Symbol → Type 0
TakesSkipped levels n us = (ws : List Word) → AllTake levels us ws → (x : Skipped) × FitsSkipped x
    × (words_of_skipped x ≡ name n ∷ ws)

-- what may stand in the place of a declaration
pub data Begins (levels : ℕ) (s : Lookahead) (v : Next) : Type 0 where
  ends : v ≡ Ok (Just marks.Semicolon ∷ []) → Begins levels s v
  reads : (us : List Symbol) → AllAre (IsRead levels) us → v ≡ Ok (us ++ Declarations ∷ []) → Begins levels s v
  begins_skipped : (n : List ℕ) (us : List Symbol) → s ≡ token (name n) → AllAre IsSkipping us
      → TakesSkipped levels n us → v ≡ Ok (us ++ Declarations ∷ []) → Begins levels s v
  refuses : (k : FaultKind) → Told in_schema (λ l. v) levels s k → v ≡ Err k → Begins levels s v

named_so : (n t : List ℕ) (ws : List Word) → bytes_eq n t ≡ true → name t ∷ ws ≡ name n ∷ ws
named_so n t ws e = ap (λ l. name l ∷ ws) (sym ((bytes_eq-Decides n t).0 e))

named_begins : (levels : ℕ) (n : List ℕ) → Begins levels (token (name n)) (skipped_symbols n)
named_begins levels n = by (bytes_eq n (codes "FUNCTION")) (bytes_eq n (codes "PROCEDURE")) (bytes_eq n (codes "RULE"))
    (bytes_eq n (codes "CONSTANT")) (bytes_eq n (codes "SUBTYPE_CONSTRAINT")) refl refl refl refl refl
  where
    by : (a b c d e : Bool) → bytes_eq n (codes "FUNCTION") ≡ a → bytes_eq n (codes "PROCEDURE") ≡ b
        → bytes_eq n (codes "RULE") ≡ c → bytes_eq n (codes "CONSTANT") ≡ d
        → bytes_eq n (codes "SUBTYPE_CONSTRAINT") ≡ e
        → Begins levels (token (name n)) (if a then Ok (SkippedName ∷ Routine 0 ∷ SkippedEnd ∷ Declarations ∷ []) else
        (if b then Ok (SkippedName ∷ Routine 0 ∷ SkippedEnd ∷ Declarations ∷ []) else
        (if c then Ok (SkippedName ∷ Until (codes "END_RULE") ∷ SkippedEnd ∷ Declarations ∷ []) else
        (if d then Ok (Until (codes "END_CONSTANT") ∷ SkippedEnd ∷ Declarations ∷ []) else
        (if e then Ok (SkippedName ∷ Until (codes "END_SUBTYPE_CONSTRAINT") ∷ SkippedEnd ∷ Declarations ∷ []) else
        Err fault_kinds.Expected)))))
    by true b c d e p q r s t = begins_skipped n (SkippedName ∷ Routine 0 ∷ SkippedEnd ∷ []) refl (tt, (tt, (tt, tt)))
        (λ ws h. let k = routine_taken levels ws h in (
          function k.0 k.1,
          k.2,
          ap (λ l. name (codes "FUNCTION") ∷ l)
              (sym k.3) ∙ named_so n (codes "FUNCTION") ws p,
        )) refl
    by false true c d e p q r s t = begins_skipped n (SkippedName ∷ Routine 0 ∷ SkippedEnd ∷ []) refl
        (tt, (tt, (tt, tt)))
        (λ ws h. let k = routine_taken levels ws h in (
          procedure k.0 k.1,
          k.2,
          ap (λ l. name (codes "PROCEDURE") ∷ l)
              (sym k.3) ∙ named_so n (codes "PROCEDURE") ws q,
        )) refl
    by false false true d e p q r s t = begins_skipped n (SkippedName ∷ Until (codes "END_RULE") ∷ SkippedEnd ∷ []) refl
        (tt, (tt, (tt, tt)))
        (λ ws h. let k = named_taken levels (codes "END_RULE") ws h in
        (rule k.0 k.1, k.2, ap (λ l. name (codes "RULE") ∷ l) (sym k.3) ∙ named_so n (codes "RULE") ws r)) refl
    by false false false true e p q r s t = begins_skipped n (Until (codes "END_CONSTANT") ∷ SkippedEnd ∷ []) refl
        (tt, (tt, tt))
        (λ ws h. let k = until_taken levels (codes "END_CONSTANT") ws h in
        (constants k.0, k.1, ap (λ l. name (codes "CONSTANT") ∷ l) (sym k.2) ∙ named_so n (codes "CONSTANT") ws s))
        refl
    by false false false false true p q r s t = begins_skipped n (SkippedName ∷ Until (codes "END_SUBTYPE_CONSTRAINT")
        ∷ SkippedEnd ∷ []) refl (tt, (tt, (tt, tt)))
        (λ ws h. let k = named_taken levels (codes "END_SUBTYPE_CONSTRAINT") ws h in (
          subtype_constraint k.0 k.1,
          k.2,
          ap (λ l. name (codes "SUBTYPE_CONSTRAINT") ∷ l) (sym k.3)
              ∙ named_so n (codes "SUBTYPE_CONSTRAINT") ws t,
        )) refl
    by false false false false false p q r s t = refuses fault_kinds.Expected (quiet (token (name n)) refl, refl) refl

pub begins : (levels : ℕ) (s : Lookahead) → Begins levels s (next_declaration s)
begins levels (token (keyword keywords.Type)) = reads (Id ∷ Just marks.Equal ∷ Underlying ∷ TypeEnd ∷ [])
    (tt, (tt, (tt, (tt, tt)))) refl
begins levels (token (keyword keywords.Entity)) = reads (Id ∷ Head ∷ Body explicits ∷ []) (tt, (tt, (tt, tt))) refl
begins levels (token (keyword keywords.EndSchema)) = ends refl
begins levels (token (name n)) = named_begins levels n
begins levels s = refuses (refused s) (refusal (λ l. next_declaration s) levels s refl) refl

-- the end of the text
abbrev OverSays : ℕ → Lookahead → Next → Type 0
OverSays levels s v = MatchResult v (λ zs. zs ≡ []) (Told in_schema (λ l. v) levels s)

over_says : (levels : ℕ) (s : Lookahead) → OverSays levels s (next_end_of_text s)
over_says levels end_of_text = refl
over_says levels s = refusal (λ l. Err (refused s)) levels s refl

-- whatever is to come
abbrev Says : ℕ → Symbol → Lookahead → Next → Type 0
Says levels y s v = MatchResult v (λ zs. AllAre (IsShallow levels) zs × (next (levels + 1) y s ≡ Ok zs))
    (Told (place_of y) (λ l. next l y s) levels s)

says_declaration : (levels : ℕ) (s : Lookahead) → Says levels Declarations s (next levels Declarations s)
says_declaration levels s = by (begins levels s)
  where
    held : (v : Next) → next_declaration s ≡ v → Says levels Declarations s v → Says levels Declarations s
        (next_declaration s)
    held v e h = subst (Says levels Declarations s) (sym e) h

    by : Begins levels s (next_declaration s) → Says levels Declarations s (next_declaration s)
    by (ends e) = held (Ok (Just marks.Semicolon ∷ [])) e ((tt, tt), e)
    by (reads us a e) = held (Ok (us ++ Declarations ∷ [])) e (
      all_append (IsShallow levels) us (Declarations ∷ [])
          (all_are (IsRead levels) (IsShallow levels) (read_shallow levels) us a) (tt, tt),
      e,
    )
    by (begins_skipped n us f a t e) = held (Ok (us ++ Declarations ∷ [])) e (
      all_append (IsShallow levels) us (Declarations ∷ [])
          (all_are IsSkipping (IsShallow levels) (skipping_shallow levels) us a) (tt, tt),
      e,
    )
    by (refuses k t e) = held (Err k) e t

says_over : (levels : ℕ) (s : Lookahead) → Says levels EndOfText s (next levels EndOfText s)
says_over levels s = by (next_end_of_text s) refl (over_says levels s)
  where
    by : (v : Next) → next_end_of_text s ≡ v → OverSays levels s v → Says levels EndOfText s v
    by (Ok zs) e h = (subst (AllAre (IsShallow levels)) (sym h) tt, e)
    by (Err k) e h = let P : Next → Type 0 = λ v. Told in_schema (λ l. v) levels s k in subst P (sym e) h

says_read : (levels : ℕ) → 0 < levels → (y : Symbol) → IsRead levels y → place_of y ≡ in_schema → (s : Lookahead)
    → Says levels y s (next levels y s)
says_read levels d y h p s = by (next levels y s) (read_answer levels d y h s)
  where
    by : (v : Next) → Answer (λ l. next l y s) levels s v → Says levels y s v
    by (Ok zs) a = (all_are (IsRead levels) (IsShallow levels) (read_shallow levels) zs a.0, a.1)
    by (Err k) a = let P : Place → Type 0 = λ q. Told q (λ l. next l y s) levels s k in subst P (sym p) a

says_skipped : (levels : ℕ) (y : Symbol) → IsSkipping y → place_of y ≡ in_skipped → (s : Lookahead)
    → Says levels y s (next levels y s)
says_skipped levels y h p s = by (next levels y s) (skips levels y h s)
  where
    by : (v : Next) → Skips (λ l. next l y s) levels s v → Says levels y s v
    by (Ok zs) a = (all_are IsSkipping (IsShallow levels) (skipping_shallow levels) zs a.0, a.1)
    by (Err k) a = let P : Place → Type 0 = λ q. Told q (λ l. next l y s) levels s k in subst P (sym p) a

says : (levels : ℕ) → 0 < levels → (y : Symbol) → IsShallow levels y → (s : Lookahead)
    → Says levels y s (next levels y s)
says levels d y h s = by (sort levels y h)
  where
    by : Sort levels y → Says levels y s (next levels y s)
    by (reading r p) = says_read levels d y r p s
    by (skipping r p) = says_skipped levels y r p s
    by (declaring e) = let P : Symbol → Type 0 = λ z. Says levels z s (next levels z s) in
        subst P (sym e) (says_declaration levels s)
    by (ending e) = let P : Symbol → Type 0 = λ z. Says levels z s (next levels z s) in
        subst P (sym e) (says_over levels s)

-- each fault's reason
pub why : (levels : ℕ) → 0 < levels → (y : Symbol) → IsShallow levels y → (s : Lookahead) (k : FaultKind)
    → next levels y s ≡ Err k → Told (place_of y) (λ l. next l y s) levels s k
why levels d y h s k e = subst (Says levels y s) e (says levels d y h s)

-- what may stand leaves symbols that are no deeper, and may stand with one more bracket
pub goes_on : (levels : ℕ) → 0 < levels → (y : Symbol) → IsShallow levels y → (s : Lookahead) (zs : List Symbol)
    → next levels y s ≡ Ok zs → AllAre (IsShallow levels) zs × (next (levels + 1) y s ≡ Ok zs)
goes_on levels d y h s zs e = subst (Says levels y s) e (says levels d y h s)

-- a sort of symbols that is kept
pub leads_keeps : (levels : ℕ) (P : Symbol → Type 0) → ((y : Symbol) (s : Lookahead) (zs : List Symbol) → P y
    → next levels y s ≡ Ok zs → AllAre P zs) → (ws : List Lookahead) (ys zs : List Symbol) → AllAre P ys
    → Leads (next levels) ys ws zs → AllAre P zs
leads_keeps levels P one [] ys zs a h = subst (AllAre P) h a
leads_keeps levels P one (w ∷ ws) [] zs a h = absurd h
leads_keeps levels P one (w ∷ ws) (y ∷ ys) zs a h = leads_keeps levels P one ws (h.0 ++ ys) zs
    (all_append P h.0 ys (one y w h.0 a.0 h.1) a.1) h.2

pub leads_shallow : (levels : ℕ) → 0 < levels → (ws : List Lookahead) (ys zs : List Symbol) → AllAre (IsShallow levels)
    ys → Leads (next levels) ys ws zs → AllAre (IsShallow levels) zs
leads_shallow levels d ws ys zs a h = leads_keeps levels (IsShallow levels)
    (λ y s zs p e. (goes_on levels d y p s zs e).0) ws ys zs a h

-- what leads somewhere leads there with one more bracket
pub leads_deeper : (levels : ℕ) → 0 < levels → (ws : List Lookahead) (ys zs : List Symbol) → AllAre (IsShallow levels)
    ys → Leads (next levels) ys ws zs → Leads (next (levels + 1)) ys ws zs
leads_deeper levels d [] ys zs a h = h
leads_deeper levels d (w ∷ ws) [] zs a h = absurd h
leads_deeper levels d (w ∷ ws) (y ∷ ys) zs a h =
    let g = goes_on levels d y a.0 w h.0 h.1 in
    (h.0, g.1, leads_deeper levels d ws (h.0 ++ ys) zs (all_append (IsShallow levels) h.0 ys g.0 a.1) h.2)

-- what is behind the end of the text
pub over_leaves : (levels : ℕ) (s : Lookahead) (zs : List Symbol) → next levels EndOfText s ≡ Ok zs → zs ≡ []
over_leaves levels s zs e = subst (OverSays levels s) e (over_says levels s)

-- reading leaves what is read, and skipping what is skipped
pub read_kept : (levels : ℕ) → 0 < levels → (y : Symbol) (s : Lookahead) (zs : List Symbol) → IsRead levels y
    → next levels y s ≡ Ok zs → AllAre (IsRead levels) zs
read_kept levels d y s zs h e = (subst (Answer (λ l. next l y s) levels s) e (read_answer levels d y h s)).0

pub skipping_kept : (levels : ℕ) (y : Symbol) (s : Lookahead) (zs : List Symbol) → IsSkipping y
    → next levels y s ≡ Ok zs → AllAre IsSkipping zs
skipping_kept levels y s zs h e = (subst (Skips (λ l. next l y s) levels s) e (skips levels y h s)).0
