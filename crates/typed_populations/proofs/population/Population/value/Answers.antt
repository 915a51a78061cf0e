use Rattle.std.proofs.Common.{◌≡◌, ◌∙◌, None, Some, sym, ap}
use Rattle.std.specs.Prelude.{option_copied}
use Rattle.population_rows.specs.steps.Rows.{form_at}
use Rattle.schema_names.specs.Schemas.{the_schema}
use Rattle.typed_populations.specs.Rows.{place_at}
use Rattle.typed_populations.specs.ValueOrder.{picked_at, position_among}
use Rattle.typed_populations.specs.PopulationTables.{slots_by_form}
use Rattle.typed_populations.proofs.Found.{no-value, instance-there, value_by_form, value-of-row, position-beyond}
use Rattle.typed_populations.proofs.population.Population.value.Goals as goal

pub returns-in_default-clause-there : goal.returns-in_default-clause-there
returns-in_default-clause-there c = λ lt.
    sym (no-value c.args.self.now c.args.name (place_at (the_schema c.args.self.now.types.now.names) c.args.place)
    (sym c.row_of.ensures.found ∙ c.in_default.is))

pub returns-in_default-form_at-clause-there : goal.returns-in_default-form_at-clause-there
returns-in_default-form_at-clause-there c = λ lt.
    let p = c.args.self.now in
    let s = the_schema p.types.now.names in
    let e = sym c.row_of.ensures.found ∙ c.in-Some.is in
    let vs = (instance-there p c.args.name c.in-Some.row e).values in
    sym (value-of-row p c.args.name c.in-Some.row e (option_copied c.form_at.result) c.form_at.ensures c.args.place lt
    ∙ ap (λ o. value_by_form s (option_copied o) vs c.args.place) c.in_default-form_at.is)

pub returns-in_default-position_of-clause-there : goal.returns-in_default-position_of-clause-there
returns-in_default-position_of-clause-there c = λ lt.
    let p = c.args.self.now in
    let s = the_schema p.types.now.names in
    let e = sym c.row_of.ensures.found ∙ c.in-Some.is in
    let vs = (instance-there p c.args.name c.in-Some.row e).values in
    sym (value-of-row p c.args.name c.in-Some.row e (option_copied c.form_at.result) c.form_at.ensures c.args.place lt
    ∙ ap (λ o. value_by_form s (option_copied o) vs c.args.place) c.in-Some-form_at.is
    ∙ ap (λ l. picked_at vs (position_among l c.args.place)) (sym c.deref.ensures.value)
    ∙ ap (picked_at vs) (sym c.position_of.ensures ∙ c.in_default-position_of.is))

pub returns-clause-there : goal.returns-clause-there
returns-clause-there c = λ lt.
    c.value_at.ensures c.args.name c.args.place (sym c.row_of.ensures.found ∙ c.in-Some.is) lt
    (sym (ap (λ o. position_among (slots_by_form o) c.args.place) c.form_at.ensures)
    ∙ ap (λ o. position_among (slots_by_form (option_copied o)) c.args.place) c.in-Some-form_at.is
    ∙ ap (λ l. position_among l c.args.place) (sym c.deref.ensures.value)
    ∙ sym c.position_of.ensures ∙ c.in-Some-position_of.is)

pub returns-clause-beyond : goal.returns-clause-beyond
returns-clause-beyond c = λ le.
    let p = c.args.self.now in
    let e = sym c.row_of.ensures.found ∙ c.in-Some.is in
    let nowhere : position_among (slots_by_form (form_at p.rows c.in-Some.row)) c.args.place ≡ None =
    position-beyond p c.args.name c.in-Some.row e c.args.place le in
    let somewhere : position_among (slots_by_form (form_at p.rows c.in-Some.row)) c.args.place
    ≡ Some c.in-Some-position_of.position =
    sym (ap (λ o. position_among (slots_by_form o) c.args.place) c.form_at.ensures)
    ∙ ap (λ o. position_among (slots_by_form (option_copied o)) c.args.place) c.in-Some-form_at.is
    ∙ ap (λ l. position_among l c.args.place) (sym c.deref.ensures.value)
    ∙ sym c.position_of.ensures ∙ c.in-Some-position_of.is in
    absurd (cc)
