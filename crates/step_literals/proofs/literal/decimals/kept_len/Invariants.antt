use Rattle.std.proofs.Common.{◌≡◌, ◌≤◌, length}
use Rattle.step_literals.specs.steps.DigitStrings.{end_of}
use Rattle.step_literals.proofs.literal.decimals.kept_len.Given as goal

abbrev pub invariant-loop-end : goal.invariant-loop-end
invariant-loop-end l = (l.end ≤ length l.digits) × (end_of l.end l.digits ≡ end_of (length l.digits) l.digits)

abbrev pub decreases-loop-end : goal.decreases-loop-end
decreases-loop-end l = l.end
