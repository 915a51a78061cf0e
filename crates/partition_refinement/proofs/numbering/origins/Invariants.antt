use Rattle.std.proofs.Common.{◌≡◌, map, take}
use Rattle.partition_refinement.specs.steps.Origins.{origin_of}
use Rattle.partition_refinement.proofs.numbering.origins.Given as goal

abbrev pub invariant-loop-birth : goal.invariant-loop-birth
invariant-loop-birth l = l.origins.items ≡ map (origin_of l.numbers l.before) (take l.birth-index l.births)
