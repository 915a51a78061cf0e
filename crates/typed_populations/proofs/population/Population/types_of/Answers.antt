use Rattle.std.proofs.Common.{◌∙◌, sym, ap, subst}
use Rattle.std.specs.Prelude.{map, option_copied}
use Rattle.schema_underlying_types.specs.BaseViews.{name_at}
use Rattle.express_syntax.specs.Profile.{Every}
use Rattle.schema_names.specs.Numbers.{HasNumber}
use Rattle.schema_names.specs.Schemas.{the_schema}
use Rattle.typed_populations.specs.PopulationTables.{types_by_form}
use Rattle.typed_populations.proofs.Found.{no-types, types-of-row}
use Rattle.typed_populations.proofs.Rowwise.{numbered-row}
use Rattle.typed_populations.proofs.population.Population.types_of.Goals as goal

pub returns-in_default-clause-types : goal.returns-in_default-clause-types
returns-in_default-clause-types c = sym (no-types c.args.self.now c.args.name (sym c.row_of.ensures.found ∙ c.in_default.is))

pub returns-in-Some-form_at-clause-types : goal.returns-in-Some-form_at-clause-types
returns-in-Some-form_at-clause-types c =
    let p = c.args.self.now in
    ap (map (name_at (the_schema p.types.now.names))) c.deref.ensures.value
    ∙ sym (types-of-row p c.args.name c.in-Some.row (sym c.row_of.ensures.found ∙ c.in-Some.is)
    (option_copied c.form_at.result) c.form_at.ensures
    ∙ ap (λ o. map (name_at (the_schema p.types.now.names)) (types_by_form (option_copied o))) c.in-Some-form_at.is)

pub returns-in-None-clause-types : goal.returns-in-None-clause-types
returns-in-None-clause-types c =
    let p = c.args.self.now in
    sym (types-of-row p c.args.name c.in-Some.row (sym c.row_of.ensures.found ∙ c.in-Some.is)
    (option_copied c.form_at.result) c.form_at.ensures
    ∙ ap (λ o. map (name_at (the_schema p.types.now.names)) (types_by_form (option_copied o))) c.in-None.is)

pub returns-in-Some-form_at-clause-numbered : goal.returns-in-Some-form_at-clause-numbered
returns-in-Some-form_at-clause-numbered c =
    let p = c.args.self.now in
    let s = the_schema p.types.now.names in
    subst (λ row. Every (λ i. HasNumber s (name_at s i) i) row) (sym c.deref.ensures.value)
    (numbered-row p c.args.name c.in-Some.row (sym c.row_of.ensures.found ∙ c.in-Some.is) c.in-Some-form_at.form.now
    (sym (ap option_copied c.in-Some-form_at.is) ∙ c.form_at.ensures))
