use Rattle.parsing.proofs.Buffers.{Copied}
use Rattle.parsing.proofs.column.copy_reversed.Given as goal

abbrev pub invariant-loop-i : goal.invariant-loop-i
invariant-loop-i g l = Copied l.fn.cells l.from l.end l.to l.i l.cells
