use Rattle.std.proofs.Common.{subst}
use Rattle.rule_plans.specs.Limits.{AreRanksBelow}
use Rattle.rule_plans.proofs.rank_limit.rank_limit.Goals as goal

pub returns : goal.returns
returns c = subst (λ rows. AreRanksBelow rows c.limit_above.result) c.deref.ensures.value c.limit_above.ensures
