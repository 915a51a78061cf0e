use Rattle.step_literals.proofs.CleanLemmas.{skips_on}
use Rattle.step_literals.proofs.clean.skip.Goals as goal

pub loop-preserved : goal.loop-preserved
loop-preserved c = skips_on c.loop.invariant c.in-Some.ensures.rest
