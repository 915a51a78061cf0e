-- What the code computes; no promise stands here. A mark for each row, by position.
use Rattle.std.specs.Prelude.{◌≡◌, ℕ, Bool, List, length, slice_get, Some}
use Rattle.value_equality.specs.Rows.{Row}

-- a row is marked exactly if the test is true for its name
pub record AreMarks (rows : List Row) (P : ℕ → Bool) (marks : List Bool) : Type 0 where
  pub each : length marks ≡ length rows
  pub told : (i : ℕ) (r : Row) → slice_get rows i ≡ Some r → slice_get marks i ≡ Some (P r.name)
