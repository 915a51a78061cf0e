use Rattle.std.proofs.Common.{[], ap, sym, ◌∙◌}
use Rattle.express_logic.specs.Logic.{known}
use Rattle.express_logic.specs.Views.{text_of}
use Rattle.rule_values.specs.Parts.{capitals_of}
use Rattle.rule_settings.specs.Settings.{schema_in, is_defined_in}
use Rattle.rule_names.proofs.Saying.{says_nothing}
use Rattle.rule_evaluation.proofs.Unnamed.{no_number}
use Rattle.rule_evaluation.proofs.types.is_defined_by.Goals as goal

-- a typed value has the name of its type
pub returns-in-None : goal.returns-in-None
returns-in-None c m =
    let S = c.args.context.now.setting.now in
    let text = text_of c.args.text.now in
    ap known (says_nothing (schema_in S) m.meant.said.attributes.is_defined_by text [] c.requires.setting.known.made.resolved
    (no_number S.extents.now.population.now.types.now.names.schema.now) (λ k. m.meant.said.are_attributes.names [] k))
    ∙ sym (ap (λ o. known (is_defined_in S m.meant (capitals_of o) text)) c.in-None.is)
