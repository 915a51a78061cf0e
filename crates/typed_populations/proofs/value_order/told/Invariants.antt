use Rattle.std.proofs.Common.{◌≡◌, Some, map, take}
use Rattle.typed_populations.proofs.value_order.told.Given as goal

abbrev pub invariant-loop-position : goal.invariant-loop-position
invariant-loop-position l = map Some l.told.items ≡ take l.position-index l.positions
