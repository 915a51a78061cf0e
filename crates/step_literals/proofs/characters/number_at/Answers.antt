use Rattle.std.proofs.Common.{◌≡◌, ◌∙◌, sym, ap, arith, drop, false}
use Rattle.std.specs.Str.Parse.{digits_value}
use Rattle.step_literals.specs.Bytes.{Stops, is_hex}
use Rattle.step_literals.specs.Strings.{clean}
use Rattle.step_literals.proofs.CharacterLemmas.{digits_end, digit_more, number_small, is_hex_digit, no_hex_digit, run_goes_on, drop_more}
use Rattle.step_literals.proofs.characters.number_at.Goals as goal

pub returns-in_default-clause-value : goal.returns-in_default-clause-value
returns-in_default-clause-value c =
    let bs = clean c.args.bytes.now in
    let stop : Stops is_hex (drop c.loop.counter bs) = rw (sym c.loop.invariant.left ∙ c.in_default.ensures.first) tt in
    c.loop.invariant.number ∙ ap (digits_value 16)
    (sym (digits_end c.args.width c.loop.counter bs c.loop-test.true c.loop.invariant.digits stop).0)

pub returns-in_default-clause-left : goal.returns-in_default-clause-left
returns-in_default-clause-left c =
    let bs = clean c.args.bytes.now in
    let stop : Stops is_hex (drop c.loop.counter bs) = rw (sym c.loop.invariant.left ∙ c.in_default.ensures.first) tt in
    c.loop.invariant.left ∙ ap (λ n. drop n bs)
    (sym (digits_end c.args.width c.loop.counter bs c.loop-test.true c.loop.invariant.digits stop).1)

pub returns-in_default-to_digit-clause-value : goal.returns-in_default-to_digit-clause-value
returns-in_default-to_digit-clause-value c =
    let bs = clean c.args.bytes.now in
    let none : is_hex c.in-Some.first ≡ false = no_hex_digit c.in-Some.first
    (rw c.from.ensures at c.in_default-to_digit.ensures.value) in
    let stop : Stops is_hex (drop c.loop.counter bs) = rw (sym c.loop.invariant.left ∙ c.in-Some.ensures.first) none in
    c.loop.invariant.number ∙ ap (digits_value 16)
    (sym (digits_end c.args.width c.loop.counter bs c.loop-test.true c.loop.invariant.digits stop).0)

pub returns-in_default-to_digit-clause-left : goal.returns-in_default-to_digit-clause-left
returns-in_default-to_digit-clause-left c =
    let bs = clean c.args.bytes.now in
    let none : is_hex c.in-Some.first ≡ false = no_hex_digit c.in-Some.first
    (rw c.from.ensures at c.in_default-to_digit.ensures.value) in
    let stop : Stops is_hex (drop c.loop.counter bs) = rw (sym c.loop.invariant.left ∙ c.in-Some.ensures.first) none in
    c.loop.invariant.left ∙ ap (λ n. drop n bs)
    (sym (digits_end c.args.width c.loop.counter bs c.loop-test.true c.loop.invariant.digits stop).1)

pub overflow_mul-value : goal.overflow_mul-value
overflow_mul-value c = omega (
  arith,
  number_small c.loop.counter (clean c.args.bytes.now) c.loop.invariant.digits
      (omega (arith, c.loop-test.true, c.requires)),
  c.loop.invariant.number,
)

pub overflow_add-value : goal.overflow_add-value
overflow_add-value c =
    omega (
      arith,
      number_small c.loop.counter (clean c.args.bytes.now) c.loop.invariant.digits
          (omega (arith, c.loop-test.true, c.requires)),
      c.loop.invariant.number,
      c.in-Some-to_digit.ensures.value,
    )

pub loop-preserved : goal.loop-preserved
loop-preserved c =
    let bs = clean c.args.bytes.now in
    let here : drop c.loop.counter bs ≡ _ = sym c.loop.invariant.left ∙ c.in-Some.ensures.first in
    let digit = rw c.from.ensures at c.in-Some-to_digit.ensures.value in
    record {
      digits = run_goes_on is_hex c.loop.counter bs (clean c.in-Some.after.now) c.in-Some.first c.loop.invariant.digits
          here (is_hex_digit c.in-Some.first digit.0);
      number = omega (
        arith,
        c.loop.invariant.number,
        digit.1,
        digit_more c.loop.counter c.in-Some.first bs
            (clean c.in-Some.after.now) c.loop.invariant.digits here,
      );
      left = drop_more c.loop.counter bs here;
    }
