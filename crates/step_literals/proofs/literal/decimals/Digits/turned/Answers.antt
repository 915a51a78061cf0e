use Rattle.std.proofs.Common.{arith}
use Rattle.step_literals.specs.steps.Digits.{digits_of, magnitude_of}
use Rattle.step_literals.proofs.UnitLemmas.{turned_some, turned_none}
use Rattle.step_literals.proofs.literal.decimals.Digits.turned.Goals as goal
use Rattle.step_literals.proofs.literal.decimals.Digits.turned.Goals.{then-len-gt0, else-len-gt0}

pub returns : goal.returns
returns c = let d = c.args.self in
    elim c.if-len-gt0.branch [
      | then-len-gt0 w ↦ turned_some d.below_zero c.args.is_turned _ (magnitude_of d) w.result-is
      | else-len-gt0 w ↦ turned_none d.below_zero c.args.is_turned _ (digits_of d) d.shift (omega arith)
    ]
