use Rattle.std.proofs.Common.{◌≡◌, take}
use Rattle.value_equality.specs.Rows.{names}
use Rattle.value_equality.specs.Views.{rows_of}
use Rattle.value_equality.proofs.parts.row_names.Given as goal

abbrev pub invariant-loop-row : goal.invariant-loop-row
invariant-loop-row l = l.names.items ≡ names (rows_of (take l.row-index l.rows))
