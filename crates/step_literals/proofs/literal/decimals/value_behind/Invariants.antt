use Rattle.std.proofs.Common.{◌≡◌, ◌<◌, ◌%◌, ◌^◌, drop}
use Rattle.std.specs.Str.Parse.{digits_value_after}
use Rattle.step_literals.proofs.literal.decimals.value_behind.Given as goal

-- the value and what is left write one number
abbrev pub invariant-loop-digit : goal.invariant-loop-digit
invariant-loop-digit l = record {
  small : l.value < 2 ^ 64;
  left : digits_value_after 10 l.value (drop l.digit-index l.digits) % 2 ^ 64 ≡ digits_value_after 10 l.front l.digits %
      2 ^ 64;
}
