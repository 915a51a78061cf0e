-- The classes of the instances of a population at a round, by position.
use Rattle.std.specs.Prelude.{◌≡◌, ℕ, List, Some, length, slice_get}
use Rattle.value_equality.specs.Rows.{Row}
use Rattle.value_equality.specs.Tables.{Table, class_at}

-- `classes` has the class of the name of each row at the round, in order.
pub record AreClassesAt (P : List Row) (t : Table) (round : ℕ) (classes : List ℕ) : Type 0 where
  pub each : length classes ≡ length P
  pub class : (i : ℕ) (r : Row) → slice_get P i ≡ Some r → slice_get classes i ≡ class_at t r.name round
