use Rattle.std.proofs.Common.{arith}
use Rattle.step_literals.proofs.DecimalText.{parts_cut, text_short}
use Rattle.step_literals.proofs.literal.Decimal.parts.Goals as goal

pub returns-clause-digits : goal.returns-clause-digits
returns-clause-digits c =
    let d = c.args.self.now in
    (parts_cut d.text.now _ _ _ _ _ _ _ _ _ _ _ _ d.spelled c.sign_len.ensures.value c.split_at.ensures.back
    c.digits_len.ensures.len c.split_at-2.ensures.front c.split_at-2.ensures.back c.min.ensures
    c.split_at-3.ensures.back c.digits_len-2.ensures.len c.split_at-4.ensures.front c.split_at-4.ensures.back
    c.min-2.ensures c.split_at-5.ensures.back).0

pub returns-clause-part : goal.returns-clause-part
returns-clause-part c =
    let d = c.args.self.now in
    (parts_cut d.text.now _ _ _ _ _ _ _ _ _ _ _ _ d.spelled c.sign_len.ensures.value c.split_at.ensures.back
    c.digits_len.ensures.len c.split_at-2.ensures.front c.split_at-2.ensures.back c.min.ensures
    c.split_at-3.ensures.back c.digits_len-2.ensures.len c.split_at-4.ensures.front c.split_at-4.ensures.back
    c.min-2.ensures c.split_at-5.ensures.back).1

pub returns-clause-exponent : goal.returns-clause-exponent
returns-clause-exponent c =
    let d = c.args.self.now in
    (parts_cut d.text.now _ _ _ _ _ _ _ _ _ _ _ _ d.spelled c.sign_len.ensures.value c.split_at.ensures.back
    c.digits_len.ensures.len c.split_at-2.ensures.front c.split_at-2.ensures.back c.min.ensures
    c.split_at-3.ensures.back c.digits_len-2.ensures.len c.split_at-4.ensures.front c.split_at-4.ensures.back
    c.min-2.ensures c.split_at-5.ensures.back).2

pub returns-clause-short : goal.returns-clause-short
returns-clause-short c = omega (arith, text_short c.args.self.now.text.now c.args.self.now.spelled)
