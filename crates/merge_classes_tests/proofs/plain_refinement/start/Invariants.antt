use Rattle.std.proofs.Common.{◌≡◌, length}
use Rattle.merge_classes_tests.proofs.plain_refinement.start.Given as goal

abbrev pub invariant-loop-place : goal.invariant-loop-place
invariant-loop-place l = length l.classes.items ≡ l.place
