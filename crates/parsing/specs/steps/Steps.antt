-- What a recursive descent by a table reads, from one state of a lexer to another. Items of a grammar describe
-- the lookaheads that it reads.
use Rattle.std.specs.Prelude.{◌≡◌, ℕ, List, [], ◌∷◌, ◌++◌, Option, Result, MatchResult}
use Rattle.parsing.specs.Tables.{LocatedToken, lookaheads, Table, run}
use Rattle.parsing.specs.Lexers.{ShowsAll, StopsIn}

-- The tokens that these items describe, some of which are already read, lie between one state and another. They
-- turn the expected symbols ys into zs.
pub record Passes {S W K R I : Type 0} (table : Table S W K) (shows : R → LocatedToken W → R → Type 0)
    (told : List W → List I → Type 0) (ys zs : List S) (before : List (LocatedToken W)) (items : List I)
    (old new : R) : Type 0 where
  pub shown : List (LocatedToken W)
  pub shown_all : ShowsAll shows old shown new
  pub words : told (lookaheads (before ++ shown)) items
  pub turned : (more : List S) (q : List (LocatedToken W)) → run table (ys ++ more) (before ++ (shown ++ q)) ≡ run table
      (zs ++ more) q

-- A parser of these symbols. If it succeeds, the items of its result describe what lies between one state and
-- another, and the symbols derive them. If it fails, the symbols don't match.
abbrev pub Parses : {S W K R I E A : Type 0} → Table S W K → (R → LocatedToken W → R → Type 0)
    → (List W → List I → Type 0) → (E → Option (K × ℕ)) → Result A E → List S → (A → List I) → R → R → Type 0
Parses table shows told fault_at result ys items old new = MatchResult result
    (λ x. Passes table shows told ys [] [] (items x) old new) (λ e. StopsIn table shows (fault_at e) ys [] old)

-- a parser whose result also satisfies `Holds`
abbrev pub ParsesWhere : {S W K R I E A : Type 0} → Table S W K → (R → LocatedToken W → R → Type 0)
    → (List W → List I → Type 0) → (E → Option (K × ℕ)) → Result A E → List S → (A → List I) → (A → Type 0) → R → R
    → Type 0
ParsesWhere table shows told fault_at result ys items Holds old new = MatchResult result
    (λ x. Holds x × Passes table shows told ys [] [] (items x) old new)
    (λ e. StopsIn table shows (fault_at e) ys [] old)

-- a parser whose first token is already read, and whose result also satisfies `Holds`
abbrev pub ParsesFrom : {S W K R I E A : Type 0} → Table S W K → (R → LocatedToken W → R → Type 0)
    → (List W → List I → Type 0) → (E → Option (K × ℕ)) → LocatedToken W → Result A E → List S → (A → List I)
    → (A → Type 0) → R → R → Type 0
ParsesFrom table shows told fault_at first result ys items Holds old new = MatchResult result
    (λ x. Holds x × Passes table shows told ys [] (first ∷ []) (items x) old new)
    (λ e. StopsIn table shows (fault_at e) ys (first ∷ []) old)
