use Rattle.std.proofs.Common.{ap, sym, ◌∙◌}
use Rattle.express_syntax.specs.ExpressionViews.{capitals}
use Rattle.conformance.specs.Expressions.{attribute_of}
use Rattle.conformance.specs.Operations.{bare}
use Rattle.express_logic.specs.Views.{datum_of}
use Rattle.rule_values.specs.Parts.{holding, element_datum}
use Rattle.rule_settings.specs.Settings.{below_rank}
use Rattle.rule_evaluation.specs.steps.Contexts.{setting_in, worth_in, instance_of}
use Rattle.rule_evaluation.proofs.qualifiers.attribute_of_self.Goals as goal

pub returns-in-Instance-clause-worth : goal.returns-in-Instance-clause-worth
unfolding element_datum
returns-in-Instance-clause-worth c m =
    let C = c.args.context.now in
    ap (λ e. worth_in C m (instance_of (bare (element_datum e))) (datum_of holding c.attribute.new.value) c.attribute.result) c.in-Instance.is
    ∙ c.attribute.ensures.worth m.meant (below_rank C.setting.now m.meant C.limit)
    ∙ ap (λ e. attribute_of (setting_in C m) (element_datum e) (capitals c.args.name)) (sym c.in-Instance.is)
