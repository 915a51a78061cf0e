use Rattle.std.proofs.Common.{slice_get, sym, subst}
use Rattle.express_logic.specs.Views.{datum_of}
use Rattle.rule_values.specs.Parts.{holding}
use Rattle.rule_settings.specs.declared.attributes.Found.TheVariants.{Value, Derived}
use Rattle.rule_settings.specs.Settings.{schema_in, population_in, inverses_in, derivation_in}
use Rattle.rule_settings.specs.steps.Sources.{IsFoundAt}
use Rattle.rule_settings.proofs.Asked.{derived_found, inverse_found}
use Rattle.rule_settings.proofs.setting.Setting.found.Goals as goal

pub returns-in-Derived-clause-worth : goal.returns-in-Derived-clause-worth
returns-in-Derived-clause-worth c m computed =
    let S = c.args.self.now in
    let e = c.in-Derived.derivation in
    subst (λ x. IsFoundAt S m computed c.args.instance x (datum_of holding c.args.value.now) (Derived e))
    (sym c.in-Derived.is)
    (derived_found (schema_in S) m.said.domain m.said.entities m.said.attributes (population_in S) computed c.args.instance
    (derivation_in S e))

pub returns-in-Inverse-clause-worth : goal.returns-in-Inverse-clause-worth
returns-in-Inverse-clause-worth c m computed =
    let S = c.args.self.now in
    let d = datum_of holding c.inverse_value.result in
    subst (λ x. IsFoundAt S m computed c.args.instance x d Value) (sym c.in-Inverse.is)
    (inverse_found (schema_in S) m.said.domain m.said.entities m.said.attributes (population_in S) computed c.args.instance
    (slice_get (inverses_in S) c.in-Inverse.number) d c.inverse_value.ensures)
