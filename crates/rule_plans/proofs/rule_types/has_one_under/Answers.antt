use Rattle.std.proofs.Common.{rules, tests}
use Rattle.std.proofs.lemmas.Iterator.Search.{any_from_yields_List}
use Rattle.std.proofs.lemmas.Iterator.{YieldsList-from_slice}
use Rattle.graphs.specs.steps.Telling.{is_under}
use Rattle.rule_plans.proofs.rule_types.has_one_under.Goals as goal

pub returns : goal.returns
returns c =
    any_from_yields_List (λ i. is_under c.args.forest.now i c.args.declared) _ _ _ c.any.ensures.ran
    (YieldsList-from_slice c.args.types.now cc) (λ x b q k. search (rules, tests))
