-- The digits of a number, as the code cuts them from its text.
use Rattle.std.specs.Prelude.{ℕ, ℤ, List, ◌++◌}
use Rattle.step_literals.specs.declared.literal.decimals.Digits.{Digits}
use Rattle.step_literals.specs.Decimals.{signed}
use Rattle.step_literals.specs.steps.DigitStrings.{magnitude}

abbrev pub digits_of : Digits → List ℕ
digits_of d = d.whole.now ++ d.part.now

abbrev pub magnitude_of : Digits → ℕ
magnitude_of d = magnitude (digits_of d) d.shift

abbrev pub worth_of : Digits → ℤ
worth_of d = signed d.below_zero (magnitude_of d)
