use Rattle.std.proofs.Common.{◌≤◌, ◌+◌, ◌-◌, length}
use Rattle.parsing.proofs.Buffers.{Moved}
use Rattle.parsing.proofs.column.move_up.Given as goal

abbrev pub decreases-loop-end : goal.decreases-loop-end
decreases-loop-end g l = l.end - l.top

abbrev pub invariant-loop-end : goal.invariant-loop-end
invariant-loop-end g l = Moved l.fn.cells l.end l.by l.cells
    × (l.top ≤ l.end)
    × (l.end + l.by ≤ length l.fn.cells)
