use Rattle.std.proofs.Common.{ap, sym, ◌∙◌}
use Rattle.express_syntax.specs.ExpressionViews.{capitals}
use Rattle.express_logic.specs.Views.{datum_of}
use Rattle.conformance.specs.Expressions.{instance_attribute}
use Rattle.conformance.specs.Operations.{bare}
use Rattle.rule_values.specs.Parts.{holding}
use Rattle.rule_evaluation.specs.steps.Contexts.{setting_in, worth_in, instance_of}
use Rattle.rule_evaluation.proofs.qualifiers.attribute_of_value.Goals as goal

pub returns-clause-worth : goal.returns-clause-worth
returns-clause-worth c m =
    let C = c.args.context.now in
    let me = c.bare.ensures ∙ ap bare c.datum.ensures in
    ap (λ d. worth_in C m (instance_of d) (datum_of holding c.attribute_behind.new.value) c.attribute_behind.result) (sym me)
    ∙ c.attribute_behind.ensures.worth m
    ∙ ap (λ d. instance_attribute (setting_in C m) d (capitals c.args.name)) me
