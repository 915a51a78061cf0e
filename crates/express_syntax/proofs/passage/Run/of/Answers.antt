use Rattle.express_syntax.proofs.StandLemmas.{run_is}
use Rattle.express_syntax.proofs.passage.Run.of.Goals as goal

pub invariant_of-result : goal.invariant_of-result
invariant_of-result c = record { run = (c.requires.0, ∣ (c.requires.1, c.requires.2) ∣₁) }

pub returns-clause-run : goal.returns-clause-run
returns-clause-run c = λ r f e. run_is record { passage = c.args.passage; run = c.result-1.given.0 } r f e
