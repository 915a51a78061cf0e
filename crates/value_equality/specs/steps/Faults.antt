-- Why rows aren't a population.
use Rattle.std.specs.Prelude.{⊤, ◌==◌, List}
use Rattle.std.specs.List.{IsDistinct}
use Rattle.value_equality.specs.declared.fault.PlainFault.{PlainFault}
use Rattle.value_equality.specs.declared.fault.PlainFault.TheVariants.{TooManyRows, DuplicateRow, UnknownReference, Memory}
use Rattle.value_equality.specs.Rows.{Row, names, IsPopulation, AreFew}

-- The fault of rows:
-- - `TooManyRows`: there are 2^32 or more;
-- - `DuplicateRow`: there are fewer, and a name occurs twice;
-- - `UnknownReference`: there are fewer, no name occurs twice, and a reference names no row;
-- - `Memory`: memory ran out, which is possible with any rows.
abbrev pub IsFaultOf : List Row → PlainFault → Type 0
IsFaultOf rows TooManyRows = AreFew rows → ⊥
IsFaultOf rows DuplicateRow = AreFew rows × (IsDistinct (◌==◌) (names rows) → ⊥)
IsFaultOf rows UnknownReference = AreFew rows × IsDistinct (◌==◌) (names rows) × (IsPopulation rows → ⊥)
IsFaultOf rows Memory = ⊤
