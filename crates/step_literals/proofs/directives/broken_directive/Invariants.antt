use Rattle.std.proofs.Common.{length}
use Rattle.step_literals.specs.Strings.{clean}
use Rattle.step_literals.proofs.DirectiveLemmas.{IsReadUpTo}
use Rattle.step_literals.proofs.directives.broken_directive.Given as goal

abbrev pub invariant-loop-at : goal.invariant-loop-at
invariant-loop-at l = IsReadUpTo l.content l.rest

abbrev pub decreases-loop-at : goal.decreases-loop-at
decreases-loop-at l = length (clean l.rest)
