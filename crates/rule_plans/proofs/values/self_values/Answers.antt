use Rattle.std.proofs.Common.{◌++◌, ◌∙◌, ap, map, refl}
use Rattle.rule_plans.specs.steps.Seeking.{those, told_in}
use Rattle.rule_plans.proofs.Passing.{none-right}
use Rattle.rule_plans.proofs.values.self_values.Goals as goal

pub add_values_of-requires-clause-unsought : goal.add_values_of-requires-clause-unsought
add_values_of-requires-clause-unsought c = none-right c.args.setting.now c.args.wanted.now

pub returns : goal.returns
returns c m x at t p agrees covers =
    let (told, adds, found) = c.in_ok-add_values_of.ensures in
    ap (those p) (adds.values refl ∙ ap (λ l. map told_in l ++ told) c.new.ensures.items)
    ∙ (found m x at).those_of t p agrees covers
