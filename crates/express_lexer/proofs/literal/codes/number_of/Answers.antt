use Rattle.std.proofs.Common.{◌∙◌, ap, arith, refl}
use Rattle.std.specs.Str.Parse.{digits_value}
use Rattle.std.proofs.lemmas.Int.Digits.{digits_value_more}
use Rattle.std.proofs.lemmas.List.{take_all}
use Rattle.express_lexer.proofs.CodeLemmas.{digit_small, digit_fits}
use Rattle.express_lexer.proofs.literal.codes.number_of.Goals as goal

pub loop-digit-init : goal.loop-digit-init
loop-digit-init c = record { value = refl; small = omega arith }

pub overflow_mul-number : goal.overflow_mul-number
overflow_mul-number c = omega (
  arith,
  digit_fits c.loop-digit.digit-index c.loop-digit.number 0 (omega (arith, c.loop-digit-test.true, c.requires.short))
      c.loop-digit.invariant.small (omega arith),
)

pub overflow_add-number : goal.overflow_add-number
overflow_add-number c = omega (
  arith,
  digit_fits c.loop-digit.digit-index c.loop-digit.number c.from.result
      (omega (arith, c.loop-digit-test.true, c.requires.short)) c.loop-digit.invariant.small
      (omega (arith, c.from.ensures, c.hex_value.ensures.bound)),
)

pub loop-digit-preserved : goal.loop-digit-preserved
loop-digit-preserved c = record {
  value = omega (
    arith,
    c.loop-digit.invariant.value,
    digits_value_more 16 c.args.digits.now c.loop-digit.digit-index c.loop-digit-test.true,
    c.from.ensures,
    c.hex_value.ensures.value,
  );
  small = digit_small c.loop-digit.digit-index c.loop-digit.number c.from.result c.loop-digit.invariant.small
      (omega (arith, c.from.ensures, c.hex_value.ensures.bound));
}

pub returns : goal.returns
returns c = c.loop-digit.invariant.value ∙ ap (digits_value 16)
    (take_all c.loop-digit.digit-index c.args.digits.now (omega (arith, c.loop-digit-test.false)))
