use Rattle.std.proofs.Common.{◌∙◌, ap, sym}
use Rattle.rule_plans.specs.steps.Coded.{elements_by}
use Rattle.rule_plans.proofs.value_search.Seeker.elements_of.Goals as goal

pub returns-in-Aggregate : goal.returns-in-Aggregate
returns-in-Aggregate c =
    c.by_number.ensures ∙ sym (ap (elements_by c.args.self.now c.args.sought) c.in-Aggregate.is)
