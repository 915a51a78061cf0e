use Rattle.std.proofs.Common.{ap, ◌∙◌}
use Rattle.std.proofs.lemmas.Result.{on_ok_weaker}
use Rattle.express_syntax.specs.ExpressionViews.{tree_of}
use Rattle.conformance.specs.Expressions.{means}
use Rattle.rule_values.specs.declared.element.Element.TheVariants as elements
use Rattle.rule_values.specs.Parts.{element_datum}
use Rattle.rule_values.specs.steps.Scopes.{variables_of}
use Rattle.rule_settings.specs.Settings.{setting_by, below_rank}
use Rattle.rule_evaluation.proofs.values.formula_value.Goals as goal

pub returns : goal.returns
unfolding element_datum
returns c =
    let S = c.args.setting.now in
    let f = c.args.formula in
    let me = element_datum (elements.Instance c.args.instance) in
    on_ok_weaker c.evaluate.result
    (λ g m right. g.0 (record { meant = m; kept = right })
    ∙ ap (λ vs. means (setting_by S m (below_rank S m f.rank)) vs me (tree_of f.expression.now)) (ap variables_of c.requires.scope))
    c.evaluate.ensures
