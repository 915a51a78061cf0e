use Rattle.std.proofs.Common.{◌≤◌}
use Rattle.partitions.specs.Layouts.{size}
use Rattle.partitions.specs.Views.{layout}
use Rattle.partition_refinement.proofs.Leading.{AreFirstFrom}
use Rattle.partition_refinement.proofs.first_places.first_places.Given as goal

abbrev pub invariant-loop-place : goal.invariant-loop-place
invariant-loop-place l = record {
  within : l.place ≤ size (layout l.parts);
  from : AreFirstFrom (layout l.parts) l.place l.first_places.items;
}

abbrev pub decreases-loop-place : goal.decreases-loop-place
decreases-loop-place l = l.place
