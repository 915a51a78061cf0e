use Rattle.std.proofs.Common.{◌≡◌, ◌≤◌, ◌<◌, ◌-◌, ◌%◌, ◌^◌, length}
use Rattle.step_literals.specs.steps.Digits.{digits_of}
use Rattle.step_literals.specs.steps.DigitStrings.{front_value}
use Rattle.step_literals.proofs.literal.decimals.Digits.front_value.Given as goal

abbrev pub invariant-loop-place : goal.invariant-loop-place
invariant-loop-place l = record {
  value : l.value ≡ front_value l.place (digits_of l.self) % 2 ^ 64;
  within : l.place ≤ l.len;
  past : l.place < l.len → length (digits_of l.self) ≤ l.place;
}

abbrev pub decreases-loop-place : goal.decreases-loop-place
decreases-loop-place l = l.len - l.place
