use Rattle.std.specs.Option.{option_map}
use Rattle.std.proofs.Common.{◌≡◌, ◌∙◌, ap, sym, subst}
use Rattle.express_syntax.specs.ExpressionViews.{capitals}
use Rattle.express_logic.specs.Views.{datum_of}
use Rattle.conformance.specs.Attributes.{AreAttributes}
use Rattle.rule_values.specs.Parts.{holding}
use Rattle.schema_attribute_sources.specs.SourceViews.{types_seen, inverses_seen, source_seen, IsNumberedSource}
use Rattle.rule_settings.specs.Settings.{schema_in, population_in, inverses_in, worth_of}
use Rattle.rule_settings.proofs.Asked.{is_found, is_missing}
use Rattle.rule_settings.proofs.Meaning.{attributes_are}
use Rattle.rule_settings.proofs.setting.Setting.declared_attribute.Goals as goal

pub found-requires-clause-numbered : goal.found-requires-clause-numbered
found-requires-clause-numbered c =
    let s = schema_in c.args.self.now in
    subst (λ rows. IsNumberedSource s (inverses_seen s rows) c.in-Some.source) c.deref.ensures.value c.in-Some.ensures.numbered

pub returns-in-Some-clause-worth : goal.returns-in-Some-clause-worth
returns-in-Some-clause-worth c m computed =
    let S = c.args.self.now in
    let s = schema_in S in
    let y = c.args.instance in
    let types = types_seen s c.types_of.result.now in
    let a = capitals c.args.name in
    let told =
    subst (λ rows. AreAttributes s (inverses_seen s rows) m.said.attributes
    → option_map (source_seen s (inverses_seen s rows)) c.attribute_source-source.result ≡ m.said.attributes.source types a)
    c.deref.ensures.value (c.attribute_source-source.ensures.value m.said.attributes) (attributes_are S m) in
    is_found s m.said.domain m.said.entities m.said.attributes (population_in S) computed (inverses_in S) (attributes_are S m) y types
    c.types_of.ensures.types a (source_seen s (inverses_in S) c.in-Some.source)
    (worth_of S (computed y) (datum_of holding c.found.new.value) c.found.result)
    (ap (option_map (source_seen s (inverses_in S))) (sym c.in-Some.is) ∙ told) (c.found.ensures.worth m computed)

pub returns-in-None-clause-worth : goal.returns-in-None-clause-worth
returns-in-None-clause-worth c m computed =
    let S = c.args.self.now in
    let s = schema_in S in
    let types = types_seen s c.types_of.result.now in
    let a = capitals c.args.name in
    let told =
    subst (λ rows. AreAttributes s (inverses_seen s rows) m.said.attributes
    → option_map (source_seen s (inverses_seen s rows)) c.attribute_source-source.result ≡ m.said.attributes.source types a)
    c.deref.ensures.value (c.attribute_source-source.ensures.value m.said.attributes) (attributes_are S m) in
    is_missing s m.said.domain m.said.entities m.said.attributes (population_in S) computed c.args.instance a
    (ap (option_map (source_seen s (inverses_in S))) (sym c.in-None.is) ∙ told
    ∙ ap (λ ts. m.said.attributes.source ts a) c.types_of.ensures.types)
