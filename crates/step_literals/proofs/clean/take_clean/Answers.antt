use Rattle.step_literals.proofs.CleanLemmas.{skips_kept, skips_low}
use Rattle.step_literals.proofs.clean.take_clean.Goals as goal

pub returns-then-first-ge32-clause-rest : goal.returns-then-first-ge32-clause-rest
returns-then-first-ge32-clause-rest c = skips_kept c.loop-first.invariant c.in-Some.ensures.cases.0 c.if-first-ge32.true

pub loop-first-preserved : goal.loop-first-preserved
loop-first-preserved c = skips_low c.loop-first.invariant c.in-Some.ensures.cases.0 c.if-first-ge32.false
