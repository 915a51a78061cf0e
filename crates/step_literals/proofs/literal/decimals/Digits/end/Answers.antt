use Rattle.std.proofs.Common.{arith}
use Rattle.step_literals.proofs.DigitSlices.{end_behind, end_before}
use Rattle.step_literals.proofs.literal.decimals.Digits.end.Goals as goal

pub returns-then-behind-gt0-clause-end : goal.returns-then-behind-gt0-clause-end
returns-then-behind-gt0-clause-end c =
    let d = c.args.self.now in end_behind d.whole.now d.part.now _ c.kept_len-behind.ensures.end c.if-behind-gt0.true

pub returns-else-behind-gt0-clause-end : goal.returns-else-behind-gt0-clause-end
returns-else-behind-gt0-clause-end c =
    let d = c.args.self.now in end_before d.whole.now d.part.now _ _ c.kept_len-behind.ensures.end
    (λ h. omega (arith, h, c.if-behind-gt0.false)) c.kept_len.ensures.end
