use Rattle.express_syntax.proofs.StandLemmas.{routine_is}
use Rattle.express_syntax.proofs.passage.Routine.of.Goals as goal

pub invariant_of-result : goal.invariant_of-result
invariant_of-result c = record { routine = (c.requires.0, ∣ (c.requires.1, c.requires.2) ∣₁) }

pub returns-clause-routine : goal.returns-clause-routine
returns-clause-routine c = λ r f e. routine_is record { passage = c.args.passage; routine = c.result-1.given.0 } r f e
