-- The references in a parameter, and the rows of the instances that they name.
use Rattle.std.specs.Prelude.{◌≡◌, ⊤, ℕ, List, Option, Some, slice_get}
use Rattle.step_structures.specs.Words.{Word, name}
use Rattle.step_structures.specs.Trees.{Tree, leaf, typed, group, Trees, none, one}

-- the name y has a row
abbrev pub IsFound : (ℕ → Option ℕ) → ℕ → Type 0
IsFound find y = (row : ℕ) × (find y ≡ Some row)

-- each name is found at a row that has it
abbrev pub AreFound : List ℕ → (ℕ → Option ℕ) → Type 0
AreFound names find = (y row : ℕ) → find y ≡ Some row → slice_get names row ≡ Some y

abbrev pub WordWithin : (ℕ → Option ℕ) → Word → Type 0
WordWithin find (name y text) = IsFound find y
WordWithin find w = ⊤

-- each reference has a row
abbrev mutual
  pub RefersWithin : (ℕ → Option ℕ) → Tree → Type 0
  RefersWithin find (leaf w) = WordWithin find w
  RefersWithin find (typed word x) = RefersWithin find x
  RefersWithin find (group xs) = ReferWithin find xs

  pub ReferWithin : (ℕ → Option ℕ) → Trees → Type 0
  ReferWithin find none = ⊤
  ReferWithin find (one x xs) = RefersWithin find x × ReferWithin find xs
