use Rattle.partitions.specs.Views.{layout}
use Rattle.partitions.proofs.Sets.{ArePartedFirst}
use Rattle.partitions.proofs.parts.Parts.part_chosen.Given as goal

abbrev pub invariant-loop-place : goal.invariant-loop-place
invariant-loop-place l = ArePartedFirst (layout l.initial.self) (layout l.self) l.places l.place-index
