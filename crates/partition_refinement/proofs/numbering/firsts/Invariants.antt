use Rattle.std.proofs.Common.{◌≡◌, map, take}
use Rattle.partition_refinement.specs.steps.Origins.{place_in}
use Rattle.partition_refinement.proofs.numbering.firsts.Given as goal

abbrev pub invariant-loop-birth : goal.invariant-loop-birth
invariant-loop-birth l = l.firsts.items ≡ map place_in (take l.birth-index l.births)
