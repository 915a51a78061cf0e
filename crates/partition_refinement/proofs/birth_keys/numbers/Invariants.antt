use Rattle.std.proofs.Common.{◌≡◌, length}
use Rattle.partition_refinement.specs.steps.Working.{IsIndex}
use Rattle.partition_refinement.proofs.birth_keys.numbers.Given as goal

abbrev pub invariant-loop-number : goal.invariant-loop-number
invariant-loop-number l = record {
  each : length l.numbers.items ≡ l.size;
  index : IsIndex l.births l.numbers.items l.number;
}
