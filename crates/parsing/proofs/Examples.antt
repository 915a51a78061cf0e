-- Brackets in brackets, with so many open at most, up to the end of the text: worked examples.
use Rattle.std.proofs.Common.{◌≡◌, ℕ, zero, suc, nat_lt, if◌then◌else◌, List, [], ◌∷◌, ◌++◌, Ok, Err, refl}
use Rattle.parsing.specs.Tables.{LocatedToken, Table, Outcome, passes, stops, short, run}
use Rattle.parsing.specs.Languages.{AllAre, IsComplete}

data Bracket : Type 0 where
  opening : Bracket
  closing : Bracket
  over : Bracket

data Fault : Type 0 where
  expected : Fault
  too_deep : Fault

-- what is to come with this many brackets open, and what ends it
data Rest : Type 0 where
  rest : ℕ → Rest

abbrev nested : ℕ → Table Rest Bracket Fault
nested levels (rest n) opening = if nat_lt n levels then Ok (rest (suc n) ∷ rest n ∷ []) else Err too_deep
nested levels (rest zero) over = Ok []
nested levels (rest (suc n)) closing = Ok []
nested levels _ _ = Err expected

abbrev at_places : ℕ → List Bracket → List (LocatedToken Bracket)
at_places n [] = []
at_places n (b ∷ bs) = record { lookahead = b; place = n } ∷ at_places (suc n) bs

abbrev answer : List Bracket → Outcome Bracket Fault
answer bs = run (nested 2) (rest 0 ∷ []) (at_places 0 bs)

example_whole : answer (opening ∷ opening ∷ closing ∷ closing ∷ opening ∷ closing ∷ over ∷ []) ≡ passes []
example_whole = refl

example_unmatched : answer (opening ∷ closing ∷ closing ∷ over ∷ []) ≡ stops expected 2
example_unmatched = refl

example_open : answer (opening ∷ closing ∷ opening ∷ over ∷ []) ≡ stops expected 3
example_open = refl

example_deep : answer (opening ∷ opening ∷ opening ∷ closing ∷ []) ≡ stops too_deep 2
example_deep = refl

example_short : answer (opening ∷ closing ∷ []) ≡ short
example_short = refl

abbrev IsAny : Rest → Type 0
IsAny y = Unit {0}

-- the premise of the laws
nested_complete : (levels : ℕ) → IsComplete (nested levels) IsAny
nested_complete levels = record { kept = λ y w zs a e. all zs; completing = λ y a. complete y }
  where
    all : (zs : List Rest) → AllAre IsAny zs
    all [] = tt
    all (z ∷ zs) = (tt, all zs)

    complete : (y : Rest) → (u : List (LocatedToken Bracket)) × ((b : List Rest) (q : List (LocatedToken Bracket))
        → run (nested levels) (y ∷ b) (u ++ q) ≡ run (nested levels) b q)
    complete (rest zero) = (at_places 0 (over ∷ []), λ b q. refl)
    complete (rest (suc n)) = (at_places 0 (closing ∷ []), λ b q. refl)
