use Rattle.std.proofs.Common.{◌+◌, take}
use Rattle.step_records.specs.steps.Building.{kept_by}
use Rattle.step_records.specs.steps.Places.{AreStanding}
use Rattle.step_records.proofs.stretch.side_by_side.Given as goal

abbrev pub invariant-loop-cell : goal.invariant-loop-cell
invariant-loop-cell l = AreStanding l.text (kept_by l.text l.column (take (l.cell-index + 1) l.cells)) l.all.from l.all.end
