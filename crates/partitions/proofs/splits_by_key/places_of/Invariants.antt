use Rattle.std.proofs.Common.{◌≡◌, take}
use Rattle.partitions.specs.steps.Steps.{places_of}
use Rattle.partitions.proofs.splits_by_key.places_of.Given as goal

abbrev pub invariant-loop-pair : goal.invariant-loop-pair
invariant-loop-pair l = l.places.items ≡ places_of (take l.pair-index l.pairs)
