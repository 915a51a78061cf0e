-- The values of a row in another order.
use Rattle.std.specs.Prelude.{ℕ, ◌+◌, List, [], ◌∷◌, ◌++◌, drop, get_or, map, take}
use Rattle.std.specs.List.{range_with_len}
use Rattle.std.specs.Option.{unwrap_or}
use Rattle.parsing.specs.declared.column.Run.{Run}
use Rattle.step_values.specs.declared.cell.Cell.{Cell}
use Rattle.step_values.specs.declared.cell.Cell.TheVariants as cells
use Rattle.step_values.specs.AgreementTests.{value_count}
use Rattle.step_values.specs.Leaves.{unset}
use Rattle.step_values.specs.steps.Slots.{nth}
use Rattle.step_values.specs.Values.{leaf, Values, none, more}

-- the values at these positions; an unset value for a position beyond the end
abbrev pub at_positions : Values → List ℕ → Values
at_positions vs [] = none
at_positions vs (k ∷ ks) = more (unwrap_or (nth vs k) (leaf unset)) (at_positions vs ks)

-- the positions of values, in order
abbrev pub positions_of : Values → List ℕ
positions_of vs = range_with_len 0 (value_count vs)

-- the values of a row
abbrev pub row_at : List Values → ℕ → Values
row_at rows i = get_or rows i none

-- the cells at these positions
abbrev pub cells_at : List Cell → List ℕ → List Cell
cells_at column ks = map (λ k. get_or column k cells.Unset) ks

-- the cells of a run
abbrev pub cells_of : List Cell → Run → List Cell
cells_of column r = take r.count (drop r.first column)

-- the column with the cells of a run replaced
abbrev pub written_over : List Cell → Run → List Cell → List Cell
written_over column r cs = take r.first column ++ cs ++ drop (r.first + r.count) column
