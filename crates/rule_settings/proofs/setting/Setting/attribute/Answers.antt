use Rattle.std.proofs.Common.{◌∙◌, refl, ap, sym}
use Rattle.conformance.specs.Populations.{types_at}
use Rattle.typed_populations.specs.PopulationTables.{slots_by_form}
use Rattle.typed_populations.proofs.Found.{no-instance}
use Rattle.express_syntax.specs.ExpressionViews.{capitals}
use Rattle.express_logic.specs.Views.{datum_of}
use Rattle.conformance.specs.Meanings.{attribute_in}
use Rattle.rule_values.specs.Parts.{holding}
use Rattle.schema_attribute_sources.specs.SourceViews.{source_seen}
use Rattle.rule_sources.specs.Sources.{source_in, form_source}
use Rattle.rule_settings.specs.Settings.{schema_in, population_in, inverses_in, worth_of}
use Rattle.rule_settings.proofs.Asked.{is_found}
use Rattle.rule_settings.proofs.Meaning.{attributes_are}
use Rattle.rule_settings.proofs.setting.Setting.attribute.Goals as goal

pub returns-in_default-clause-worth : goal.returns-in_default-clause-worth
returns-in_default-clause-worth c m computed =
    let S = c.args.self.now in
    ap (λ o. attribute_in (schema_in S) m.said.domain m.said.entities m.said.attributes (population_in S) computed o (capitals c.args.name))
    (sym (no-instance S.extents.now.population.now c.args.instance (sym c.row_of.ensures.found ∙ c.in_default.is)))

pub found_in_row-requires-clause-row : goal.found_in_row-requires-clause-row
found_in_row-requires-clause-row c = sym c.row_of.ensures.found ∙ c.in-Some.is

pub found_in_row-requires-clause-numbered : goal.found_in_row-requires-clause-numbered
found_in_row-requires-clause-numbered c =
    let S = c.args.self.now in
    let forms = S.extents.now.population.now.rows.forms.items in
    (c.in-Some-find.ensures (schema_in S) (inverses_in S) forms c.requires.setting.forms).source.numbered

pub found_in_row-requires-clause-position : goal.found_in_row-requires-clause-position
found_in_row-requires-clause-position c =
    let S = c.args.self.now in
    let forms = S.extents.now.population.now.rows.forms.items in
    let x = source_in c.in-Some-find.named.now.source in
    (c.in-Some-find.ensures (schema_in S) (inverses_in S) forms c.requires.setting.forms).position
    ∙ ap (λ o. form_source (slots_by_form o) x) c.form_of_row.ensures.form

pub returns-in-Some-find-clause-worth : goal.returns-in-Some-find-clause-worth
returns-in-Some-find-clause-worth c m computed =
    let S = c.args.self.now in
    let s = schema_in S in
    let y = c.args.instance in
    let a = capitals c.args.name in
    let x = source_seen s (inverses_in S) (source_in c.in-Some-find.named.now.source) in
    let forms = S.extents.now.population.now.rows.forms.items in
    let told =
    (c.in-Some-find.ensures s (inverses_in S) forms c.requires.setting.forms).source.value m.said.attributes (attributes_are S m)
    ∙ ap (λ ts. m.said.attributes.source ts a) (sym (c.form_of_row.ensures.types y (sym c.row_of.ensures.found ∙ c.in-Some.is))) in
    is_found s m.said.domain m.said.entities m.said.attributes (population_in S) computed (inverses_in S) (attributes_are S m) y
    (types_at (population_in S) y) refl a x
    (worth_of S (computed y) (datum_of holding c.found_in_row.new.value) c.found_in_row.result) told
    (c.found_in_row.ensures.worth m computed)
