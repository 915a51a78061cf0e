-- Reading by a table from one state of a lexer to another.
use Rattle.std.specs.Prelude.{◌≡◌, ℕ, List, [], ◌∷◌, ◌++◌, Option, Some, None}
use Rattle.parsing.specs.Tables.{LocatedToken, lookaheads, Table, run, stops}

-- these are the tokens that a lexer shows in turn
abbrev pub ShowsAll : {R W : Type 0} → (R → LocatedToken W → R → Type 0) → R → List (LocatedToken W) → R → Type 0
ShowsAll shows old [] new = old ≡ new
ShowsAll {R} shows old (s ∷ rest) new = (next : R) × shows old s next × ShowsAll shows next rest new

-- these lookaheads are what a lexer shows from one state to another
abbrev pub Reads : {R W : Type 0} → (R → LocatedToken W → R → Type 0) → R → List W → R → Type 0
Reads {R} {W} shows old ws new = (s : List (LocatedToken W)) × ShowsAll shows old s new × (lookaheads s ≡ ws)

-- The tokens read from one state to another turn the expected symbols ys, after the tokens `before`, into the
-- symbols zs.
pub record Turns {S W K R : Type 0} (table : Table S W K) (shows : R → LocatedToken W → R → Type 0) (ys zs : List S)
    (before : List (LocatedToken W)) (old new : R) : Type 0 where
  pub shown : List (LocatedToken W)
  pub shown_all : ShowsAll shows old shown new
  pub turned : (more : List S) (q : List (LocatedToken W)) → run table (ys ++ more) (before ++ (shown ++ q)) ≡ run table
      (zs ++ more) q

-- The expected symbols ys don't match, at the start or after the tokens `before`. There is a fault of this kind
-- at this byte offset, whatever follows it. If there is no such fault, nothing is stated.
abbrev pub StopsIn : {S W K R : Type 0} → Table S W K → (R → LocatedToken W → R → Type 0) → Option (K × ℕ) → List S
    → List (LocatedToken W) → R → Type 0
StopsIn table shows None ys before old = Unit {0}
StopsIn {S} {W} {K} {R} table shows (Some f) ys before old = (s : List (LocatedToken W)) × (new : R)
    × ShowsAll shows old s new × ((more : List S) → run table (ys ++ more) (before ++ s) ≡ stops f.0 f.1)
