use Rattle.std.proofs.Common.{◌≡◌, length}
use Rattle.merge_classes_tests.proofs.plain_refinement.next_round.Given as goal

abbrev pub invariant-loop-place : goal.invariant-loop-place
invariant-loop-place l = length l.next.items ≡ l.place
