use Rattle.std.proofs.Common.{length}
use Rattle.step_literals.specs.steps.Directives.{Skips}
use Rattle.step_literals.proofs.clean.take_clean.Given as goal

-- nothing from 32 up is passed
abbrev pub invariant-loop-first : goal.invariant-loop-first
invariant-loop-first l = Skips 0 l.bytes l.rest

abbrev pub decreases-loop-first : goal.decreases-loop-first
decreases-loop-first l = length l.rest
