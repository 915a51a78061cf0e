use Rattle.std.proofs.Common.{◌≡◌}
use Rattle.step_literals.specs.steps.Digits.{digits_of}
use Rattle.step_literals.specs.steps.DigitStrings.{front_value}
use Rattle.step_literals.proofs.literal.decimals.Digits.compare_magnitude.Given as goal

-- the digits so far are the same
abbrev pub invariant-loop-i : goal.invariant-loop-i
invariant-loop-i l = front_value l.i (digits_of l.self) ≡ front_value l.i (digits_of l.other)
