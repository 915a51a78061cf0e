use Rattle.std.proofs.Common.{arith, rules, refl}
use Rattle.step_literals.proofs.DigitLemmas.{digit_at}
use Rattle.step_literals.proofs.DigitSlices.{value_wraps, value_all}
use Rattle.step_literals.proofs.literal.decimals.value_behind.Goals as goal

pub overflow_sub-digit : goal.overflow_sub-digit
overflow_sub-digit c = digit_at c.args.digits.now c.loop-digit.digit-index c.loop-digit.value _ c.requires
    (search rules) refl

pub loop-digit-preserved : goal.loop-digit-preserved
loop-digit-preserved c = record {
  small = omega arith;
  left = value_wraps c.args.digits.now c.loop-digit.digit-index c.loop-digit.value c.from.result _ c.requires
      (search rules) c.loop-digit.invariant.left c.from.ensures;
}

pub returns : goal.returns
returns c = value_all c.args.digits.now c.loop-digit.digit-index c.loop-digit.value _ c.loop-digit-test.false
    c.loop-digit.invariant.small c.loop-digit.invariant.left
