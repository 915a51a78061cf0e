use Rattle.std.proofs.Common.{refl, sym, subst, arith}
use Rattle.step_literals.specs.Bytes.{Each, is_digit}
use Rattle.step_literals.proofs.NumberLimits.{exponent_each, exponent_cut, few_digits}
use Rattle.step_literals.proofs.numbers.is_short_number.Goals as goal

pub number_of-requires : goal.number_of-requires
number_of-requires c =
    subst (Each is_digit) (sym (exponent_cut c.args.number.now _ _ _ c.exponent_text-exponent.ensures
    c.sign_len.ensures.value c.split_at.ensures.back)) (exponent_each c.args.number.now c.requires)

pub returns-then-number-le-SHORT : goal.returns-then-number-le-SHORT
returns-then-number-le-SHORT c = (
  λ _. record {
    short = omega (arith, c.if-number-le-SHORT.true);
    exponent = few_digits c.args.number.now c.requires c.if-number-le-SHORT.true;
  },
  λ _. refl,
)
