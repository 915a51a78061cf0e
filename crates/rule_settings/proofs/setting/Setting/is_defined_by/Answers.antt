use Rattle.std.proofs.Common.{sym}
use Rattle.express_syntax.specs.ExpressionViews.{capitals}
use Rattle.express_logic.specs.Views.{text_of}
use Rattle.schema_attribute_sources.proofs.Reading.{tree-within}
use Rattle.rule_settings.specs.Settings.{schema_in}
use Rattle.rule_names.proofs.Saying.{says_nothing}
use Rattle.rule_settings.proofs.setting.Setting.is_defined_by.Goals as goal

pub says_definition-requires-clause-within : goal.says_definition-requires-clause-within
says_definition-requires-clause-within c =
    tree-within c.args.self.now.extents.now.population.now.types.now.names.schema.now (capitals c.args.name)
    c.in-Some.number (sym c.in-Some.ensures)

pub returns-in-Some : goal.returns-in-Some
returns-in-Some c m =
    let n = capitals c.args.name in
    c.says_definition.ensures n (sym c.in-Some.ensures) m.said.attributes.is_defined_by (λ k. m.said.are_attributes.names n k)

pub returns-in-None : goal.returns-in-None
returns-in-None c m =
    let n = capitals c.args.name in
    says_nothing (schema_in c.args.self.now) m.said.attributes.is_defined_by (text_of c.args.text.now) n
    c.requires.setting.known.made.resolved c.in-None.ensures (λ k. m.said.are_attributes.names n k)
