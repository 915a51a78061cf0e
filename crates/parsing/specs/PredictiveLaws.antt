-- The laws of predictive tables.
use Rattle.std.specs.Prelude.{◌≡◌, ◌↔◌, ℕ, Bool, true, List}
use Rattle.parsing.specs.Tables.{LocatedToken, lookaheads, Table, run, stops, short}
use Rattle.parsing.specs.Languages.{IsViablePrefix, IsFirstFault, Accepts, AllAre, IsComplete}

-- If each symbol that can arise can be completed, the table stops exactly at the first token with which the
-- tokens so far are no prefix of an accepted text. It stops at no token late, and at none early.
abbrev pub StopsAtFirstFault : Type 0 → Type 0 → Type 0 → Type 0
StopsAtFirstFault S W K =
    (table : Table S W K) (sort : S → Bool) (start : List S) → IsComplete table (λ y. sort y ≡ true)
    → AllAre (λ y. sort y ≡ true) start
    → (s : List (LocatedToken W)) (place : ℕ) → ((k : K) × (run table start s ≡ stops k place))
    ↔ IsFirstFault (Accepts table start) s place

-- If each symbol that can arise can be completed, the table runs short exactly if the tokens are a prefix of an
-- accepted text, but not a whole one.
abbrev pub AsksForMore : Type 0 → Type 0 → Type 0 → Type 0
AsksForMore S W K =
    (table : Table S W K) (sort : S → Bool) (start : List S) → IsComplete table (λ y. sort y ≡ true)
    → AllAre (λ y. sort y ≡ true) start
    → (s : List (LocatedToken W)) → (run table start s ≡ short) ↔ (IsViablePrefix (Accepts table start) (lookaheads s)
    × (Accepts table start (lookaheads s) → ⊥))
