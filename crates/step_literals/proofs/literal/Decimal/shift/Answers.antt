use Rattle.std.proofs.Common.{arith, ◌∙◌, sym, ap, subst, true, false}
use Rattle.step_literals.specs.Decimals.{is_negative}
use Rattle.step_literals.specs.Bytes.{is_digit, Each}
use Rattle.step_literals.proofs.NumberLimits.{exponent_cut}
use Rattle.step_literals.proofs.DecimalText.{exponent_is_digits, exponent_read, part_short, shift_is}
use Rattle.step_literals.proofs.literal.Decimal.shift.Goals as goal

pub number_of-requires : goal.number_of-requires
number_of-requires c = subst (Each is_digit)
    (sym (exponent_cut c.args.self.now.text.now _ _ _ c.requires.exponent c.sign_len.ensures.value
    c.split_at.ensures.back)) (exponent_is_digits c.args.self.now.text.now c.args.self.now.spelled)

pub overflow_cast-exponent : goal.overflow_cast-exponent
overflow_cast-exponent c =
    let x = exponent_read c.args.self.now.text.now _ _ _ c.args.self.now.spelled
    (exponent_cut c.args.self.now.text.now _ _ _ c.requires.exponent c.sign_len.ensures.value
    c.split_at.ensures.back) c.number_of.ensures c.unwrap_or-exponent.ensures in
    omega (arith, x.1)

pub overflow_cast-point : goal.overflow_cast-point
overflow_cast-point c = omega (arith, part_short c.args.self.now.text.now c.args.self.now.spelled)

pub overflow_sub-point : goal.overflow_sub-point
overflow_sub-point c = omega (arith, part_short c.args.self.now.text.now c.args.self.now.spelled)

pub overflow_sub-result : goal.overflow_sub-result
overflow_sub-result c =
    let x = exponent_read c.args.self.now.text.now _ _ _ c.args.self.now.spelled
    (exponent_cut c.args.self.now.text.now _ _ _ c.requires.exponent c.sign_len.ensures.value
    c.split_at.ensures.back) c.number_of.ensures c.unwrap_or-exponent.ensures in
    omega (arith, x.1, part_short c.args.self.now.text.now c.args.self.now.spelled)

pub overflow_add-result : goal.overflow_add-result
overflow_add-result c =
    let x = exponent_read c.args.self.now.text.now _ _ _ c.args.self.now.spelled
    (exponent_cut c.args.self.now.text.now _ _ _ c.requires.exponent c.sign_len.ensures.value
    c.split_at.ensures.back) c.number_of.ensures c.unwrap_or-exponent.ensures in
    omega (arith, x.1, part_short c.args.self.now.text.now c.args.self.now.spelled)

pub returns-then-is_negative : goal.returns-then-is_negative
returns-then-is_negative c =
    let t = c.args.self.now.text.now in
    let x = exponent_read t _ _ _ c.args.self.now.spelled (exponent_cut c.args.self.now.text.now _ _ _
    c.requires.exponent c.sign_len.ensures.value c.split_at.ensures.back) c.number_of.ensures
    c.unwrap_or-exponent.ensures in
    shift_is t _ _ true c.args.self.now.spelled x.0 c.requires.part (sym c.if-is_negative.true ∙ c.is_negative.ensures
    ∙ ap is_negative c.requires.exponent)

pub returns-else-is_negative : goal.returns-else-is_negative
returns-else-is_negative c =
    let t = c.args.self.now.text.now in
    let x = exponent_read t _ _ _ c.args.self.now.spelled (exponent_cut c.args.self.now.text.now _ _ _
    c.requires.exponent c.sign_len.ensures.value c.split_at.ensures.back) c.number_of.ensures
    c.unwrap_or-exponent.ensures in
    shift_is t _ _ false c.args.self.now.spelled x.0 c.requires.part (sym c.if-is_negative.false ∙ c.is_negative.ensures
    ∙ ap is_negative c.requires.exponent)
