use Rattle.std.proofs.Common.{arith, ◌≡◌, ◌∙◌, ◌+◌, ◌++◌, length, ap, length-append}
use Rattle.step_literals.specs.steps.DigitStrings.{significant, is_significant, significant_digits, is_below_zero}
use Rattle.step_literals.specs.steps.NormalFormLemmas.{digits_significant}
use Rattle.step_literals.proofs.DecimalDigits.{below_with_sign, below_without_sign, sign_of_digits}
use Rattle.step_literals.proofs.literal.Decimal.digits.Goals as goal
use Rattle.step_literals.proofs.literal.Decimal.digits.Goals.{then-is_negative, else-is_negative}

pub invariant_of-result : goal.invariant_of-result
invariant_of-result c =
    let t = c.args.self.now.text.now in
    let r = c.without_zeros.result in
    let xs : r.0.now ++ r.1.now ≡ significant_digits t = c.without_zeros.ensures.digits
    ∙ ap significant c.parts.ensures.digits in
    let len : length (r.0.now ++ r.1.now) + 0 ≡ length r.0.now + length r.1.now =
    omega (arith, length-append r.0.now r.1.now) in
    let sign : c.if-is_negative.below_zero ≡ is_below_zero t =
    elim c.if-is_negative.branch [
      | then-is_negative w ↦ below_with_sign t _ _ _ _ _ xs len w.if-is_negative.true c.is_negative.ensures
          w.below_zero-is
      | else-is_negative w ↦ below_without_sign t _ _ w.if-is_negative.false c.is_negative.ensures w.below_zero-is
    ] in
    record {
      significant = ap is_significant xs ∙ digits_significant t;
      short = omega (arith, c.without_zeros.ensures.within, c.parts.ensures.short);
      sign = sign_of_digits t _ _ xs sign;
    }

pub returns-clause-digits : goal.returns-clause-digits
returns-clause-digits c = c.without_zeros.ensures.digits ∙ ap significant c.parts.ensures.digits

pub returns-clause-sign : goal.returns-clause-sign
returns-clause-sign c =
    let t = c.args.self.now.text.now in
    let r = c.without_zeros.result in
    let xs : r.0.now ++ r.1.now ≡ significant_digits t = c.without_zeros.ensures.digits
    ∙ ap significant c.parts.ensures.digits in
    let len : length (r.0.now ++ r.1.now) + 0 ≡ length r.0.now + length r.1.now =
    omega (arith, length-append r.0.now r.1.now) in
    elim c.if-is_negative.branch [
      | then-is_negative w ↦ below_with_sign t _ _ _ _ _ xs len w.if-is_negative.true c.is_negative.ensures
          w.below_zero-is
      | else-is_negative w ↦ below_without_sign t _ _ w.if-is_negative.false c.is_negative.ensures w.below_zero-is
    ]
