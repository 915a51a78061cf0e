use Rattle.std.proofs.Common.{◌||◌, ◌∙◌, ap, sym, map, refl}
use Rattle.graphs.specs.Graphs.{has}
use Rattle.rule_plans.specs.steps.Seeking.{number}
use Rattle.rule_plans.proofs.Sifting.{none-pass}
use Rattle.rule_plans.proofs.values.types_found.Goals as goal

pub returns : goal.returns
returns c m x at t p agrees covers none =
    let (told, adds, found) = c.in_ok-add_values_of.ensures in
    sym ((found m x at).those_of t p agrees covers)
    ∙ none-pass p told
    (λ i there. none i (adds.types refl i ∙ ap (λ l. has l i || has (map number told) i) c.new-2.ensures.items ∙ there))
