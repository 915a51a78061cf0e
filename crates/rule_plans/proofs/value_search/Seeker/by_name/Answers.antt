use Rattle.std.proofs.Common.{◌∙◌, ap}
use Rattle.rule_plans.specs.steps.Coded.{wanted_in, sought}
use Rattle.rule_plans.proofs.value_search.Seeker.by_name.Goals as goal

pub returns : goal.returns
returns c =
    let e = c.wanted_in-declared.ensures ∙ ap (wanted_in c.args.self.now.wanted.now) c.find.ensures in
    λ i. sought (e i) (c.of_name-base.ensures i)
