use Rattle.std.proofs.Common.{◌≡◌, ◌<◌, ◌∙◌, Some, length, slice_get, ap, sym, subst}
use Rattle.schema_constraints.specs.RuleViews.{place_at}
use Rattle.conformance.specs.Populations.{value_of}
use Rattle.conformance.specs.Values.{datum_at, first_declared}
use Rattle.rule_settings.specs.Settings.{schema_in, population_in}
use Rattle.rule_settings.proofs.Explicits.{declared_within, declared_at, worth_at}
use Rattle.rule_settings.proofs.setting.Setting.declared_value.Goals as goal

pub base_at-requires : goal.base_at-requires
base_at-requires c =
    let S = c.args.self.now in
    let q = c.args.place in
    subst (λ l. q < length l) (sym c.deref.ensures.value)
    (declared_within (schema_in S) S.tables.now.declared.items c.requires.setting.tables.declared q c.requires.place)

pub returns-in-Some : goal.returns-in-Some
returns-in-Some c m y told =
    let S = c.args.self.now in
    let s = schema_in S in
    let is = population_in S in
    let q = c.args.place in
    let b = c.base_at.result.now in
    let so =
    declared_at s S.tables.now.declared.items c.requires.setting.tables.declared q c.requires.place b
    (ap (λ l. slice_get l q) (sym c.deref.ensures.value) ∙ c.base_at.ensures) in
    let there : value_of is y (place_at s q) ≡ Some c.in-Some.value = sym told ∙ c.in-Some.is in
    c.value_datum.ensures
    ∙ worth_at s m.said.domain m.said.entities m.said.are_entities c.requires.setting.known.made.resolved m.said.is_domain
    S.tables.now.value_types c.requires.setting.tables.value_types is m.conforms y (place_at s q) c.in-Some.value there b
    so.numbered (so.says m.said.domain m.said.entities m.said.is_domain m.said.are_entities)

pub returns-in-None : goal.returns-in-None
returns-in-None c m y told =
    let s = schema_in c.args.self.now in
    let p = place_at s c.args.place in
    ap (datum_at s m.said.domain (first_declared s m.said.domain m.said.entities p)) (sym c.in-None.is ∙ told)
