-- Trees stored in a column of cells. The children of a cell come before it, and its value depends on their
-- values.
use Rattle.std.specs.Prelude.{◌≡◌, ⊤, ℕ, zero, suc, ◌<◌, ◌≤◌, List, [], ◌∷◌, ◌++◌, length, map}
use Rattle.std.specs.Prelude.{Option, Some, None, slice_get}

-- the structure of cells, and their values
pub record Nodes (C T : Type 0) : Type 0 where
  -- the children of a cell have indices below this number
  pub reach : C → ℕ
  -- the value of a cell, given the value at each index
  pub says : (ℕ → T) → C → T
  -- the value at an index without a cell
  pub nothing : T

-- the values at n indices, from `first` on
abbrev pub run : {T : Type 0} → (ℕ → T) → ℕ → ℕ → List T
run f first zero = []
run f first (suc n) = f first ∷ run f (suc first) n

module _ {C T : Type 0} (nodes : Nodes C T) where
  -- the value of a cell depends only on its children
  abbrev pub AsksChildrenAlone : Type 0
  AsksChildrenAlone =
      (f g : ℕ → T) (c : C) → ((k : ℕ) → k < nodes.reach c → f k ≡ g k)
      → nodes.says f c ≡ nodes.says g c

  abbrev pub said_or : (ℕ → T) → Option C → T
  said_or f None = nodes.nothing
  said_or f (Some c) = nodes.says f c

  -- the value at an index, down to a depth
  abbrev pub said_within : ℕ → List C → ℕ → T
  said_within zero column i = nodes.nothing
  said_within (suc depth) column i = said_or (said_within depth column) (slice_get column i)

  -- the value at an index
  abbrev pub said_at : List C → ℕ → T
  said_at column i = said_within (suc i) column i

  -- the values of cells that aren't in the column, but whose children are
  abbrev pub said_by : List C → List C → List T
  said_by column cs = map (nodes.says (said_at column)) cs

  -- the children of each cell come before it
  abbrev pub IsColumn : List C → Type 0
  IsColumn column = (i : ℕ) (c : C) → slice_get column i ≡ Some c → nodes.reach c ≤ i

  -- the children of each of these cells have indices below a number
  abbrev pub AreBefore : ℕ → List C → Type 0
  AreBefore i [] = ⊤
  AreBefore i (c ∷ cs) = (nodes.reach c ≤ i) × AreBefore i cs

  -- a column that is extended by cells whose children are in it
  pub record GoesOn (old cs : List C) : Type 0 where
    pub column : IsColumn (old ++ cs)
    -- the values in the column don't change
    pub stays : (i : ℕ) → i < length old → said_at (old ++ cs) i ≡ said_at old i
    -- the new cells have the values that they had before
    pub moved : run (said_at (old ++ cs)) (length old) (length cs) ≡ said_by old cs
