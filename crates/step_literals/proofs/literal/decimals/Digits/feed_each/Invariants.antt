use Rattle.std.proofs.Common.{◌≡◌, ◌%◌, ◌^◌, fold}
use Rattle.step_literals.specs.DecimalKeys.{front_writes}
use Rattle.step_literals.specs.steps.Digits.{digits_of}
use Rattle.step_literals.specs.steps.DigitStrings.{front_value}
use Rattle.step_literals.proofs.literal.decimals.Digits.feed_each.Given as goal

abbrev pub invariant-loop-i : goal.invariant-loop-i
invariant-loop-i g l = record {
  value : l.value ≡ front_value l.i (digits_of l.self) % 2 ^ 64;
  fed : l.state ≡ fold g.H.Hasher.write l.initial.state (front_writes l.i (digits_of l.self));
}
