use Rattle.std.proofs.Common.{sym, ◌∙◌, arith, rules}
use Rattle.step_literals.proofs.NumberCuts.{exponent_at, exponent_no_digits}
use Rattle.step_literals.proofs.numbers.exponent_len.Goals as goal

pub returns-then-digits-eq0-clause-longest : goal.returns-then-digits-eq0-clause-longest
returns-then-digits-eq0-clause-longest c =
    exponent_no_digits c.args.bytes.now c.split_at.result.1.now c.split_at-2.result.1.now c.sign_len-sign.result
    c.digits_len-digits.result c.split_at.ensures.back c.sign_len-sign.ensures.value c.split_at-2.ensures.back
    c.digits_len-digits.ensures.len c.if-digits-eq0.true

pub returns-else-digits-eq0-clause-longest : goal.returns-else-digits-eq0-clause-longest
returns-else-digits-eq0-clause-longest c =
    exponent_at c.args.bytes.now c.split_at.result.1.now c.split_at-2.result.1.now c.sign_len-sign.result
    c.digits_len-digits.result (search rules) (sym c.is_e.ensures ∙ c.if-not-is_e.false) c.split_at.ensures.back
    c.sign_len-sign.ensures.value c.split_at-2.ensures.back c.digits_len-digits.ensures.len
    (omega (arith, c.if-digits-eq0.false))
