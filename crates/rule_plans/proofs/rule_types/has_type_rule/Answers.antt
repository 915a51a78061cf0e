use Rattle.std.proofs.Common.{rules, tests}
use Rattle.std.proofs.lemmas.Iterator.Search.{any_from_yields_List}
use Rattle.std.proofs.lemmas.Iterator.{YieldsList-from_slice}
use Rattle.rule_plans.specs.steps.Wanted.{is_type_rule}
use Rattle.rule_plans.proofs.rule_types.has_type_rule.Goals as goal

pub returns : goal.returns
returns c =
    any_from_yields_List is_type_rule _ _ _ c.any.ensures.ran (YieldsList-from_slice c.args.rules.now cc)
    (λ x b q k. search (rules, tests))
