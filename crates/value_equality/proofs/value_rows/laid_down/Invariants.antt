use Rattle.std.proofs.Common.{◌≡◌, map, take, []}
use Rattle.value_equality.specs.Views.{values_within}
use Rattle.value_equality.proofs.value_rows.laid_down.Given as goal

abbrev pub invariant-loop-row : goal.invariant-loop-row
invariant-loop-row l =
    l.builder ≡ record { names = l.names; rows = map values_within (take l.row-index l.rows); pending = [] }
