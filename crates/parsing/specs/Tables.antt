-- Predictive tables: what may come next, given a stack of symbols that are still expected.
use Rattle.std.specs.Prelude.{ℕ, List, [], ◌∷◌, ◌++◌, Result, Ok, Err}

-- a lookahead of a text, and the number of bytes before it
pub record LocatedToken (W : Type 0) : Type 0 where
  pub lookahead : W
  pub place : ℕ

abbrev pub lookaheads : {W : Type 0} → List (LocatedToken W) → List W
lookaheads [] = []
lookaheads (t ∷ s) = t.lookahead ∷ lookaheads s

-- the symbols that replace a symbol once this lookahead is read, or a fault
abbrev pub Table : Type 0 → Type 0 → Type 0 → Type 0
Table S W K = S → W → Result (List S) K

-- all expected symbols were matched, and these tokens follow; or a fault at a byte offset; or there are too few
-- tokens
pub data Outcome (W K : Type 0) : Type 0 where
  passes : List (LocatedToken W) → Outcome W K
  stops : K → ℕ → Outcome W K
  short : Outcome W K

abbrev pub step_on : {S W K : Type 0} → ℕ → (List S → Outcome W K) → List S → Result (List S) K → Outcome W K
step_on place on ys (Ok zs) = on (zs ++ ys)
step_on place on ys (Err k) = stops k place

abbrev pub run : {S W K : Type 0} → Table S W K → List S → List (LocatedToken W) → Outcome W K
run table [] s = passes s
run table (y ∷ ys) [] = short
run table (y ∷ ys) (t ∷ s) = step_on t.place (λ zs. run table zs s) ys (table y t.lookahead)
