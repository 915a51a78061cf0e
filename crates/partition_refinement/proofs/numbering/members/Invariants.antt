use Rattle.std.proofs.Common.{◌≡◌, map, take}
use Rattle.std.specs.Prelude.{slice_index}
use Rattle.partition_refinement.proofs.numbering.members.Given as goal

abbrev pub invariant-loop-head : goal.invariant-loop-head
invariant-loop-head l = l.members.items ≡ map (slice_index l.numbers) (take l.head-index l.heads)
