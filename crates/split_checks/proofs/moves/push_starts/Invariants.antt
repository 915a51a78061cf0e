use Rattle.split_checks.proofs.Moved.{StartsFirst}
use Rattle.split_checks.proofs.moves.push_starts.Given as goal

abbrev pub invariant-loop-class : goal.invariant-loop-class
invariant-loop-class l = StartsFirst l.lists l.fn.moves.items l.moves.items l.class
