use Rattle.std.proofs.Common.{◌≤◌}
use Rattle.partition_refinement.proofs.refinement.shared_places.Given as goal

abbrev pub invariant-loop-place : goal.invariant-loop-place
invariant-loop-place l = l.shared ≤ l.place
