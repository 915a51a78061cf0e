use Rattle.std.proofs.Common.{arith}
use Rattle.step_literals.proofs.DigitSlices.{some_leads, none_leads}
use Rattle.step_literals.proofs.literal.decimals.without_zeros.Goals as goal

pub returns-then-zeros-whole-clause-digits : goal.returns-then-zeros-whole-clause-digits
returns-then-zeros-whole-clause-digits c = some_leads c.args.whole.now c.args.part.now _ _ c.zeros_len-zeros.ensures.len
    c.split_at.ensures.back (omega (arith, c.split_at.ensures.back_len, c.if-zeros-whole.true))

pub returns-else-zeros-whole-clause-digits : goal.returns-else-zeros-whole-clause-digits
returns-else-zeros-whole-clause-digits c = none_leads c.args.whole.now c.args.part.now _ _ _ _
    c.zeros_len-zeros.ensures.len c.split_at.ensures.back (omega (
      arith,
      c.split_at.ensures.back_len,
      c.if-zeros-whole.false,
    )) c.zeros_len.ensures.len c.split_at-else-zeros-whole.ensures.back
