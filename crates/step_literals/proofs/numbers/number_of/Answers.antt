use Rattle.std.proofs.Common.{arith, ◌∙◌, ap, rules, ◌≡◌, ◌*◌, ◌+◌, ◌-◌, get_or, drop}
use Rattle.std.specs.Str.Parse.{digits_value, digits_value_after}
use Rattle.step_literals.proofs.DigitLemmas.{digit_at, value_more, value_bound, value_whole}
use Rattle.step_literals.proofs.numbers.number_of.Goals as goal

pub returns-in_err-checked_mul : goal.returns-in_err-checked_mul
returns-in_err-checked_mul c =
    let b = value_bound c.args.digits.now c.loop-digit.digit-index c.loop-digit.value _ c.requires (search rules)
    c.loop-digit.invariant.1 in
    rw c.from_residual.ensures (λ lt. c.in_err-checked_mul.ensures (omega (arith, lt, b)))

pub overflow_sub-digit : goal.overflow_sub-digit
overflow_sub-digit c = digit_at c.args.digits.now c.loop-digit.digit-index c.loop-digit.value _ c.requires
    (search rules) c.loop-digit.invariant.1

pub returns-in_err-value : goal.returns-in_err-value
returns-in_err-value c =
    let b = value_bound c.args.digits.now c.loop-digit.digit-index c.loop-digit.value _ c.requires (search rules)
    c.loop-digit.invariant.1 in
    rw c.from_residual-in_err-value.ensures
    (λ lt. c.in_err-value.ensures (omega (arith, lt, b, c.in_ok-checked_mul.ensures.1, c.from.ensures)))

pub loop-digit-preserved : goal.loop-digit-preserved
loop-digit-preserved c =
    let ds = c.args.digits.now in let i = c.loop-digit.digit-index in
    let v : c.in_ok-value.value ≡ c.loop-digit.value * 10 + (get_or ds i 0 - 48) =
    omega (arith, c.in_ok-value.ensures.1, c.in_ok-checked_mul.ensures.1, c.from.ensures) in (
      omega (arith, v, c.in_ok-value.ensures),
      ap (λ n. digits_value_after 10 n (drop (i + 1) ds)) v
          ∙ value_more ds i c.loop-digit.value (digits_value 10 ds) c.requires (search rules) c.loop-digit.invariant.1,
    )

pub returns : goal.returns
returns c =
    let v = value_whole c.args.digits.now c.loop-digit.digit-index c.loop-digit.value
    (digits_value 10 c.args.digits.now) c.loop-digit-test.false c.loop-digit.invariant.1 in
    (omega (arith, v, c.loop-digit.invariant.0), v)
