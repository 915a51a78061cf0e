use Rattle.std.proofs.Common.{◌≡◌, take}
use Rattle.step_values.specs.steps.Ordering.{cells_at}
use Rattle.step_values.proofs.rows.pick.Given as goal

abbrev pub invariant-loop-position : goal.invariant-loop-position
invariant-loop-position l = l.picked.items ≡ cells_at l.cells (take l.position-index l.positions)
