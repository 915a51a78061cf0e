use Rattle.std.proofs.Common.{sym, ◌∙◌}
use Rattle.express_syntax.specs.ExpressionViews.{capitals}
use Rattle.conformance.proofs.MeaningOneness.{one_truth}
use Rattle.rule_settings.specs.Settings.{schema_in, is_item_in}
use Rattle.rule_names.proofs.Enumerations.{item_told}
use Rattle.rule_settings.proofs.setting.Setting.is_item.Goals as goal

pub returns : goal.returns
returns c m =
    let S = c.args.self.now in
    let n = capitals c.args.name in
    let told = item_told (schema_in S) c.requires.setting.known.made.resolved n in
    let items = c.requires.setting.tables.items c.args.name in
    one_truth c.has.result (is_item_in S m n) (λ h. told.0 (items.0 (sym c.has.ensures ∙ h)))
    (λ h. c.has.ensures ∙ items.1 (told.1 h))
