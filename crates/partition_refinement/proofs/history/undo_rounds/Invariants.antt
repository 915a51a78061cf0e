use Rattle.std.proofs.Common.{◌<◌, length}
use Rattle.partitions.specs.Views.{layout}
use Rattle.partition_refinement.specs.steps.Working.{IsBack}
use Rattle.partition_refinement.proofs.history.undo_rounds.Given as goal

abbrev pub invariant-loop-round : goal.invariant-loop-round
invariant-loop-round l = record {
  counted : l.round < length l.counts;
  back : IsBack (layout l.parts) l.counts l.round l.first_places.items l.rounds.items l.before.items;
}

abbrev pub decreases-loop-round : goal.decreases-loop-round
decreases-loop-round l = l.round
