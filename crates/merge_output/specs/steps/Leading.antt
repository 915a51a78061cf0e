-- The map of names that is given by a list of names in the order of rows: what the code computes.
use Rattle.std.specs.Prelude.{ℕ, List, Option, None, Some, slice_get}
use Rattle.population_rows.specs.Index.{found}
use Rattle.population_rows.specs.declared.index.RowIndex.{RowIndex}
use Rattle.merge_output.specs.steps.Firsts.{or_name}

abbrev pub at_row : List ℕ → Option ℕ → Option ℕ
at_row heads None = None
at_row heads (Some i) = slice_get heads i

abbrev pub led_by : RowIndex → List ℕ → ℕ → ℕ
led_by index heads y = or_name y (at_row heads (found index y))
