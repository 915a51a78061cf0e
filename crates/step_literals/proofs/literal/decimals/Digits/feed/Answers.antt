use Rattle.std.proofs.Common.{arith}
use Rattle.step_literals.specs.steps.Digits.{digits_of}
use Rattle.step_literals.proofs.DigitSlices.{few_fed}
use Rattle.step_literals.proofs.literal.decimals.Digits.feed.Goals as goal

pub returns-else-len-ge-TOLD : goal.returns-else-len-ge-TOLD
returns-else-len-ge-TOLD g c = few_fed g.H.Hasher.write c.args.state.now c.args.len (digits_of c.args.self.now)
    (omega (arith, c.if-len-ge-TOLD.false))
