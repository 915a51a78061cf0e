use Rattle.std.proofs.Common.{arith, ap, sym, ◌∙◌, ◌+◌, ◌*◌}
use Rattle.std.proofs.lemmas.List.Sums.{prefix_len-le-length}
use Rattle.step_literals.specs.Bytes.{is_digit}
use Rattle.step_lexer.proofs.DigitsRead.{digit_more, digits_end, digit_read}
use Rattle.step_lexer.proofs.digits.small_number.Goals as goal
use Rattle.step_lexer.proofs.digits.small_number.Goals.{then-len-bytes-via-then-len-bytes, then-len-bytes-via-else-len-bytes+then-not-is_digit}

pub returns-then-len-bytes-clause-within : goal.returns-then-len-bytes-clause-within
returns-then-len-bytes-clause-within c = omega (
  arith,
  c.loop-value.invariant.0,
  prefix_len-le-length is_digit
      c.args.bytes.now,
)

pub returns-then-len-bytes-clause-all : goal.returns-then-len-bytes-clause-all
returns-then-len-bytes-clause-all c small = digits_end c.args.bytes.now c.loop-value.len c.loop-value.invariant.0
    (λ lt. elim c.then-len-bytes.branch [
      | then-len-bytes-via-then-len-bytes w ↦ absurd (omega (arith, lt, w.if-len-bytes))
      | then-len-bytes-via-else-len-bytes+then-not-is_digit w ↦ sym w.is_digit.ensures ∙ w.if-not-is_digit.true
    ])

pub loop-value-preserved : goal.loop-value-preserved
loop-value-preserved c =
    let h = sym c.is_digit.ensures ∙ c.if-not-is_digit.false in (
      digit_more c.args.bytes.now c.loop-value.len c.loop-value.invariant.0 c.if-len-bytes.false h,
      ap (λ d. c.loop-value.value * 10 + d) c.from.ensures
          ∙ digit_read c.args.bytes.now c.loop-value.len c.loop-value.value c.loop-value.invariant.1
          c.if-len-bytes.false h,
    )

pub returns-clause-within : goal.returns-clause-within
returns-clause-within c = omega (arith, c.loop-value.invariant.0, prefix_len-le-length is_digit c.args.bytes.now)
