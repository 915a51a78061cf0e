use Rattle.partition_refinement.proofs.Sorting.{AreKeysFirst}
use Rattle.partition_refinement.proofs.birth_keys.keys.Given as goal

abbrev pub invariant-loop-place : goal.invariant-loop-place
invariant-loop-place l = AreKeysFirst l.rounds l.place-items l.limit l.place-index l.keys.items
