use Rattle.std.proofs.Common.{◌≤◌, ◌≡◌, length}
use Rattle.partitions.specs.Views.{layout}
use Rattle.partition_refinement.specs.steps.Working.{AreFirstPlaces, AreBorn}
use Rattle.partition_refinement.proofs.first_places.born.Given as goal

abbrev pub invariant-loop-class : goal.invariant-loop-class
invariant-loop-class l = record {
  low : l.low ≤ l.class;
  high : l.class ≤ l.high;
  length : length l.first_places.items ≡ length l.initial.first_places.items;
  first_places : AreFirstPlaces (layout l.parts) l.class l.first_places.items;
  born : AreBorn (layout l.parts) l.class l.high l.born.items;
}

abbrev pub decreases-loop-class : goal.decreases-loop-class
decreases-loop-class l = l.class
