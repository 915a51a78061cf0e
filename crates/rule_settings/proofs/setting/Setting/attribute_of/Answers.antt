use Rattle.std.proofs.Common.{◌≡◌, ap, subst}
use Rattle.express_syntax.specs.ExpressionViews.{capitals}
use Rattle.express_logic.specs.Views.{datum_of}
use Rattle.conformance.specs.Attributes.{AreAttributes}
use Rattle.rule_values.specs.Parts.{holding}
use Rattle.schema_attribute_sources.specs.SourceViews.{types_seen, inverses_seen, source_seen}
use Rattle.rule_settings.specs.Settings.{schema_in, population_in, inverses_in, worth_of, or_nothing}
use Rattle.rule_settings.proofs.Asked.{is_member}
use Rattle.rule_settings.proofs.Meaning.{attributes_are}
use Rattle.rule_settings.proofs.setting.Setting.attribute_of.Goals as goal

pub returns-clause-worth : goal.returns-clause-worth
returns-clause-worth c m computed =
    let S = c.args.self.now in
    let s = schema_in S in
    let types = types_seen s c.types_of.result.now in
    let e = capitals c.args.entity in
    let a = capitals c.args.name in
    let x = c.group_source-source.result in
    let told =
    subst (λ rows. AreAttributes s (inverses_seen s rows) m.said.attributes
    → source_seen s (inverses_seen s rows) x ≡ m.said.attributes.source_of types e a) c.deref.ensures.value
    (c.group_source-source.ensures.value m.said.attributes) (attributes_are S m) in
    ap or_nothing
    (is_member s m.said.domain m.said.entities m.said.attributes (population_in S) computed (inverses_in S) (attributes_are S m)
    c.args.instance types c.types_of.ensures.types a e (source_seen s (inverses_in S) x)
    (worth_of S (computed c.args.instance) (datum_of holding c.found.new.value) c.found.result) told (c.found.ensures.worth m computed))
