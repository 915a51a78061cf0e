-- Targets of references: each with the number of a row.
use Rattle.std.specs.Prelude.{◌≡◌, ⊤, ℕ, List, [], ◌∷◌, ◌++◌, Some, slice_get}
use Rattle.step_values.specs.declared.cell.Cell.{Cell}
use Rattle.step_values.specs.declared.cell.Cell.TheVariants as cells
use Rattle.step_values.specs.References.{EachReferenceOf}
use Rattle.step_values.specs.Values.{Values}

-- the name and the row number of a cell, if it is a reference
abbrev pub target_of : Cell → List (ℕ × ℕ)
target_of (cells.Reference y row) = (y, row) ∷ []
target_of _ = []

-- the names and the row numbers of all references among the cells, in order
abbrev pub targets_of : List Cell → List (ℕ × ℕ)
targets_of [] = []
targets_of (c ∷ cs) = target_of c ++ targets_of cs

-- each target's row number is that of its name, if these are the names of the rows
abbrev pub LeadTo : List ℕ → List (ℕ × ℕ) → Type 0
LeadTo names [] = ⊤
LeadTo names (t ∷ ts) = (slice_get names t.1 ≡ Some t.0) × LeadTo names ts

-- each reference of the rows, at any depth, is one of these names
abbrev pub ReferTo : List ℕ → List Values → Type 0
ReferTo names [] = ⊤
ReferTo names (vs ∷ rows) = EachReferenceOf (λ y. (i : ℕ) × (slice_get names i ≡ Some y)) vs × ReferTo names rows
