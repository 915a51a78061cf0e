use Rattle.std.proofs.Common.{List, ◌+◌, take}
use Rattle.step_records.specs.declared.cell.Cell.{Cell}
use Rattle.step_records.specs.steps.Building.{kept_by}
use Rattle.step_records.specs.steps.Places.{AreStanding}
use Rattle.step_records.proofs.stretch.joined.Given as goal

abbrev pub invariant-loop-cell : goal.invariant-loop-cell
invariant-loop-cell l = (column : List Cell) → AreStanding l.text (kept_by l.text column (take (l.cell-index + 1) l.cells))
    l.all.from l.all.end
