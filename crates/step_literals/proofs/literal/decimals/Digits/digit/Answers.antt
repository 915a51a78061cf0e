use Rattle.step_literals.proofs.DecimalDigits.{whole_digit, part_digit}
use Rattle.step_literals.proofs.literal.decimals.Digits.digit.Goals as goal

pub overflow_sub-result : goal.overflow_sub-result
overflow_sub-result c = let d = c.args.self.now in
    (whole_digit d.whole.now d.part.now c.args.i d.significant c.if-i-self.true).0

pub returns-then-i-self : goal.returns-then-i-self
returns-then-i-self c = let d = c.args.self.now in
    (whole_digit d.whole.now d.part.now c.args.i d.significant c.if-i-self.true).1

pub overflow_sub-result-then-i-self-2 : goal.overflow_sub-result-then-i-self-2
overflow_sub-result-then-i-self-2 c =
    let d = c.args.self.now in (part_digit d.whole.now d.part.now c.args.i d.significant c.if-i-self.false
    c.if-i-self-2.true).0

pub returns-then-i-self-2 : goal.returns-then-i-self-2
returns-then-i-self-2 c =
    let d = c.args.self.now in (part_digit d.whole.now d.part.now c.args.i d.significant c.if-i-self.false
    c.if-i-self-2.true).1
