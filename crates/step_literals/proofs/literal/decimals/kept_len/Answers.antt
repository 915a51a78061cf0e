use Rattle.std.proofs.Common.{sym, ◌∙◌, arith}
use Rattle.step_literals.proofs.DigitSlices.{end_byte}
use Rattle.step_literals.proofs.literal.decimals.kept_len.Goals as goal

pub loop-end-preserved : goal.loop-end-preserved
loop-end-preserved c = (
  omega arith,
  sym ((end_byte c.loop-end.end c.args.digits.now (omega arith) (omega arith)).0
      (omega arith)) ∙ c.loop-end.invariant.1,
)
