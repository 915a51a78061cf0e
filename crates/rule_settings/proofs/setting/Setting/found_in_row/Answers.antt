use Rattle.std.proofs.Common.{◌∙◌, Some, ap, sym, subst}
use Rattle.schema_constraints.specs.RuleViews.{place_at}
use Rattle.typed_populations.proofs.Found.{row-of-name}
use Rattle.express_logic.specs.Views.{datum_of}
use Rattle.rule_values.specs.Parts.{holding}
use Rattle.schema_attribute_sources.specs.SourceViews.{IsNumberedSource}
use Rattle.rule_sources.specs.Sources.{source_in, form_source}
use Rattle.rule_sources.proofs.Positions.{position-kept}
use Rattle.rule_settings.specs.declared.attributes.Found.TheVariants.{Value}
use Rattle.rule_settings.specs.Settings.{schema_in, population_in, inverses_in}
use Rattle.rule_settings.specs.steps.Sources.{slots_in, IsFoundAt}
use Rattle.rule_settings.proofs.Asked.{explicit_found}
use Rattle.rule_settings.proofs.setting.Setting.found_in_row.Goals as goal

pub value_at-requires-clause-row : goal.value_at-requires-clause-row
value_at-requires-clause-row c =
    row-of-name c.args.self.now.extents.now.population.now c.args.instance (Some c.args.row) (sym c.requires.row)

pub value_at-requires-clause-place : goal.value_at-requires-clause-place
value_at-requires-clause-place c =
    let S = c.args.self.now in
    subst (λ x. IsNumberedSource (schema_in S) (inverses_in S) (source_in x)) c.in-Explicit.is c.requires.numbered

pub value_at-requires-clause-position : goal.value_at-requires-clause-position
value_at-requires-clause-position c =
    let slots = slots_in c.args.self.now c.args.row in
    position-kept slots c.in-Explicit.place c.in-Explicit.position
    (sym c.in-Explicit.is ∙ c.requires.position ∙ ap (λ x. form_source slots (source_in x)) c.in-Explicit.is)

pub found-requires-clause-numbered : goal.found-requires-clause-numbered
found-requires-clause-numbered c =
    let S = c.args.self.now in
    subst (λ x. IsNumberedSource (schema_in S) (inverses_in S) (source_in x)) c.in-Other.is c.requires.numbered

pub returns-in-Explicit-clause-worth : goal.returns-in-Explicit-clause-worth
returns-in-Explicit-clause-worth c m computed =
    let S = c.args.self.now in
    let d = datum_of holding c.value_at.result in
    subst (λ x. IsFoundAt S m computed c.args.instance (source_in x) d Value) (sym c.in-Explicit.is)
    (explicit_found (schema_in S) m.said.domain m.said.entities m.said.attributes (population_in S) computed c.args.instance
    (place_at (schema_in S) c.in-Explicit.place) d (c.value_at.ensures m c.args.instance c.requires.row))

pub returns-in-Other-clause-worth : goal.returns-in-Other-clause-worth
returns-in-Other-clause-worth c m computed =
    let S = c.args.self.now in
    subst (λ x. IsFoundAt S m computed c.args.instance (source_in x) (datum_of holding c.found.new.value) c.found.result)
    (sym c.in-Other.is) (c.found.ensures.worth m computed)
