-- Languages: the texts that a table accepts, and the first token that no text of the language continues with. A
-- language is given by the lookaheads of its whole texts, including the end of the text.
use Rattle.std.specs.Prelude.{◌≡◌, ℕ, List, [], ◌∷◌, ◌++◌, Ok}
use Rattle.parsing.specs.Tables.{LocatedToken, lookaheads, Table, run, passes}

-- the lookaheads are a prefix of a whole text
abbrev pub IsViablePrefix : {W : Type 0} → (List W → Type 0) → List W → Type 0
IsViablePrefix {W} L s = (rest : List W) × L (s ++ rest)

-- At this byte offset is the first token with which the tokens so far are no viable prefix.
pub record IsFirstFault {W : Type 0} (L : List W → Type 0) (s : List (LocatedToken W)) (place : ℕ) : Type 0 where
  pub before : List (LocatedToken W)
  pub at : LocatedToken W
  pub after : List (LocatedToken W)
  pub text : s ≡ before ++ at ∷ after
  pub viable : IsViablePrefix L (lookaheads before)
  -- nothing follows a whole text
  pub unended : L (lookaheads before) → ⊥
  pub refused : IsViablePrefix L (lookaheads (before ++ at ∷ [])) → ⊥
  pub place_is : place ≡ at.place

-- the table accepts these lookaheads as a whole text
abbrev pub Accepts : {S W K : Type 0} → Table S W K → List S → List W → Type 0
Accepts {S} {W} table start ws = (s : List (LocatedToken W)) × (lookaheads s ≡ ws) × (run table start s ≡ passes [])

-- P holds of each element of a list
abbrev pub AllAre : {X : Type 0} → (X → Type 0) → List X → Type 0
AllAre P [] = Unit {0}
AllAre P (x ∷ xs) = P x × AllAre P xs

-- Symbols of this sort only leave symbols of this sort, and for each some tokens complete it. The sort may be
-- narrow: a symbol that can't be completed does no harm if it can't arise.
pub record IsComplete {S W K : Type 0} (table : Table S W K) (sort : S → Type 0) : Type 0 where
  pub kept : (y : S) (w : W) (zs : List S) → sort y → table y w ≡ Ok zs → AllAre sort zs
  pub completing : (y : S) → sort y → (u : List (LocatedToken W)) × ((b : List S) (q : List (LocatedToken W))
      → run table (y ∷ b) (u ++ q) ≡ run table b q)

-- the table accepts the lookaheads of whole texts of the language, and no others
pub record IsExact {S W K : Type 0} (table : Table S W K) (sort : S → Type 0) (start : List S)
    (L : List W → Type 0) : Type 0 where
  pub complete : IsComplete table sort
  pub starts : AllAre sort start
  pub passing : (s : List (LocatedToken W)) → L (lookaheads s) → run table start s ≡ passes []
  pub sound : (s : List (LocatedToken W)) → run table start s ≡ passes [] → L (lookaheads s)
