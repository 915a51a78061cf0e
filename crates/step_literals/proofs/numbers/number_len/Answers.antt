use Rattle.std.proofs.Common.{arith, rules}
use Rattle.std.specs.Prelude.{◌==◌}
use Rattle.std.proofs.lemmas.Bool.Decides.{nat_tests}
use Rattle.step_literals.proofs.Runs.{stops_at}
use Rattle.step_literals.proofs.NumberCuts.{number_none, integer_at, real_at}
use Rattle.step_literals.proofs.numbers.number_len.Goals as goal

pub returns-then-digits-eq0 : goal.returns-then-digits-eq0
returns-then-digits-eq0 c =
    number_none c.args.bytes.now c.split_at.result.1.now c.sign_len-sign.result c.digits_len-digits.result c.requires
    c.sign_len-sign.ensures.value c.split_at.ensures.back c.digits_len-digits.ensures.len c.if-digits-eq0.true

pub returns-then-is_empty : goal.returns-then-is_empty
returns-then-is_empty c = (
  omega (arith, c.split_at.ensures.back_len),
  integer_at c.args.bytes.now c.split_at.result.1.now
      c.split_at-2.result.1.now c.sign_len-sign.result c.digits_len-digits.result c.sign_len-sign.ensures.value
      c.split_at.ensures.back c.digits_len-digits.ensures.len c.if-digits-eq0.false c.split_at-2.ensures.back
      (stops_at c.split_at-2.result.1.now (λ b. b == 46) (λ h. grind (arith, nat_tests))),
)

pub returns : goal.returns
returns c = (
  omega (
    arith,
    c.split_at.ensures.back_len,
    c.split_at-2.ensures.back_len,
    c.split_at-3.ensures.back_len,
    c.split_at-4.ensures.back_len,
  ),
  real_at c.args.bytes.now c.split_at.result.1.now c.split_at-2.result.1.now c.split_at-3.result.1.now
      c.split_at-4.result.1.now c.sign_len-sign.result c.digits_len-digits.result c.digits_len-part.result
      c.exponent_len-exponent.result c.sign_len-sign.ensures.value c.split_at.ensures.back
      c.digits_len-digits.ensures.len c.if-digits-eq0.false c.split_at-2.ensures.back (search rules) (search rules)
      c.split_at-3.ensures.back c.digits_len-part.ensures.len c.split_at-4.ensures.back
      c.exponent_len-exponent.ensures.longest,
)
