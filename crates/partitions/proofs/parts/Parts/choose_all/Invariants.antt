use Rattle.partitions.specs.steps.Steps.{ChoosesAll}
use Rattle.partitions.specs.Views.{layout}
use Rattle.partitions.proofs.parts.Parts.choose_all.Given as goal

abbrev pub invariant-loop-place : goal.invariant-loop-place
invariant-loop-place l = ChoosesAll (layout l.initial.self) (layout l.self) l.places l.place-index
