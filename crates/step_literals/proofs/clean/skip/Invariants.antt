use Rattle.step_literals.specs.steps.Directives.{Skips}
use Rattle.step_literals.proofs.clean.skip.Given as goal

abbrev pub invariant-loop : goal.invariant-loop
invariant-loop l = Skips l.counter l.bytes l.rest
