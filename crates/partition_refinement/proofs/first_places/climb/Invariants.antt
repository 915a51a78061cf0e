use Rattle.partitions.specs.Views.{layout}
use Rattle.partition_refinement.proofs.Climbing.{IsOnTheWay}
use Rattle.partition_refinement.proofs.first_places.climb.Given as goal

abbrev pub invariant-loop-at : goal.invariant-loop-at
invariant-loop-at l = IsOnTheWay (layout l.parts) l.base l.class l.at

abbrev pub decreases-loop-at : goal.decreases-loop-at
decreases-loop-at l = l.at
