use Rattle.std.proofs.Common.{length}
use Rattle.split_checks.proofs.Moved.{Undoing}
use Rattle.split_checks.proofs.moves.undo_all.Given as goal

abbrev pub invariant-loop-birth : goal.invariant-loop-birth
invariant-loop-birth l =
    Undoing l.fn.births.items l.births.items l.fn.lists.items l.lists.items l.moves.items

abbrev pub decreases-loop-birth : goal.decreases-loop-birth
decreases-loop-birth l = length l.births.items
