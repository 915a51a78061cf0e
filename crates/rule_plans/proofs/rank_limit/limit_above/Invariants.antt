use Rattle.std.proofs.Common.{take}
use Rattle.rule_plans.specs.Limits.{AreRanksBelow}
use Rattle.rule_plans.proofs.rank_limit.limit_above.Given as goal

abbrev pub invariant-loop-formula : goal.invariant-loop-formula
invariant-loop-formula l = AreRanksBelow (take l.formula-index l.rows) l.limit
