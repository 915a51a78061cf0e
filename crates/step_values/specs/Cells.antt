-- The value that a cell of a column represents.
use Rattle.std.specs.Prelude.{◌≡◌, ℕ, suc, ◌+◌, ◌*◌, ◌^◌, ◌<◌, ◌≤◌, List}
use Rattle.parsing.specs.Nodes.{Nodes, run, said_at}
use Rattle.parsing.specs.declared.column.Run.{Run}
use Rattle.step_values.specs.declared.cell.Cell.{Cell}
use Rattle.step_values.specs.declared.cell.Cell.TheVariants as cells
use Rattle.step_values.specs.Leaves.{unset, derived, element}
use Rattle.step_values.specs.Values.{Value, leaf, reference, typed, sequence, bag, Values}
use Rattle.step_values.specs.Views.{all_of, word_of, number_leaf, text_leaf, bits_leaf}

-- the index of the value inside a typed value, from the high and the low part
abbrev pub inner_of : ℕ → ℕ → ℕ
inner_of high low = high * 2 ^ 32 + low

-- every value directly inside the cell has an index below this one
abbrev pub reach_of : Cell → ℕ
reach_of (cells.Typed high low w) = suc (inner_of high low)
reach_of (cells.Sequence r) = r.first + r.count
reach_of (cells.Bag r) = r.first + r.count
reach_of _ = 0

-- the index lies within the run
abbrev pub IsIn : Run → ℕ → Type 0
IsIn r k = (r.first ≤ k) × (k < r.first + r.count)

-- the value at the index is directly inside the cell
abbrev pub IsInside : Cell → ℕ → Type 0
IsInside (cells.Typed high low w) k = k ≡ inner_of high low
IsInside (cells.Sequence r) k = IsIn r k
IsInside (cells.Bag r) k = IsIn r k
IsInside _ k = ⊥

-- the values of a run, if f maps each index to its value
abbrev pub values_at : (ℕ → Value) → Run → Values
values_at f r = all_of (run f r.first r.count)

-- the value of a cell, if f maps each index to its value
abbrev pub value_by : (ℕ → Value) → Cell → Value
value_by f cells.Unset = leaf unset
value_by f cells.Derived = leaf derived
value_by f (cells.Number d) = leaf (number_leaf d)
value_by f (cells.Text t) = leaf (text_leaf t)
value_by f (cells.Bits b) = leaf (bits_leaf b)
value_by f (cells.Element w) = leaf (element (word_of w))
value_by f (cells.Reference y row) = reference y
value_by f (cells.Typed high low w) = typed (word_of w) (f (inner_of high low))
value_by f (cells.Sequence r) = sequence (values_at f r)
value_by f (cells.Bag r) = bag (values_at f r)

-- the value of a cell that has nothing inside
abbrev pub flat_value : Cell → Value
flat_value c = value_by (λ _. leaf unset) c

-- cells as nodes of values
abbrev pub value_nodes : Nodes Cell Value
value_nodes = record { reach = reach_of; says = value_by; nothing = leaf unset }

-- the value at an index of a column
abbrev pub value_at : List Cell → ℕ → Value
value_at column at = said_at value_nodes column at

-- the values of a run of a column
abbrev pub values_of_run : List Cell → Run → Values
values_of_run column r = values_at (value_at column) r
