-- The references of a population outside bags of more than one value, by the positions of rows.
use Rattle.std.specs.Prelude.{◌≡◌, ℕ, List, Some, slice_get}
use Rattle.step_values.specs.Shapes.{outside_each}
use Rattle.value_equality.specs.Rows.{Row, names}

-- reference i, counted from 0, of the row at position x names the row at position t
pub record Refers (rows : List Row) (x i t : ℕ) : Type 0 where
  pub row : Row
  pub row_is : slice_get rows x ≡ Some row
  pub name : ℕ
  pub name_is : slice_get (outside_each row.values) i ≡ Some name
  pub target_is : slice_get (names rows) t ≡ Some name
