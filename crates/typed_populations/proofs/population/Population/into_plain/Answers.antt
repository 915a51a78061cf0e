use Rattle.std.proofs.Common.{◌∙◌, ℕ, List, length, sym, ap, subst}
use Rattle.express_syntax.specs.Profile.{Every}
use Rattle.population_rows.specs.Index.{place_of}
use Rattle.step_values.specs.steps.Targets.{LeadTo, ReferTo}
use Rattle.schema_names.specs.Schemas.{the_schema}
use Rattle.typed_populations.specs.ValueOrder.{HasMoves}
use Rattle.typed_populations.proofs.Found.{kept}
use Rattle.typed_populations.proofs.Moved.{moves-each}
use Rattle.typed_populations.proofs.RowsMade.{picked-length, plain-rows}
use Rattle.typed_populations.proofs.population.Population.into_plain.Goals as goal

pub reordered-requires-clause-indexed : goal.reordered-requires-clause-indexed
reordered-requires-clause-indexed c = λ y.
    (kept c.args.self).index y ∙ ap (λ (ns : List ℕ). place_of ns y) (sym c.as_slice-names.ensures)

pub reordered-requires-clause-known : goal.reordered-requires-clause-known
reordered-requires-clause-known c =
    subst (Every HasMoves) (sym c.deref.ensures.value)
    (moves-each (the_schema c.args.self.types.now.names) c.args.self.rows.forms.items
    c.in_ok-orders.orders.items c.in_ok-orders.ensures)

pub reordered-requires-clause-leads : goal.reordered-requires-clause-leads
reordered-requires-clause-leads c =
    subst (λ ns. LeadTo ns c.args.self.values.targets) (sym c.as_slice-names.ensures) (kept c.args.self).leads

pub reordered-requires-clause-all : goal.reordered-requires-clause-all
reordered-requires-clause-all c =
    subst (λ ns. ReferTo ns c.args.self.values.rows) (sym c.as_slice-names.ensures) (kept c.args.self).refers

pub reordered-requires-clause-forms : goal.reordered-requires-clause-forms
reordered-requires-clause-forms c = (kept c.args.self).forms ∙ ap length (sym c.as_slice-names.ensures)

pub reordered-requires-clause-each : goal.reordered-requires-clause-each
reordered-requires-clause-each c = (kept c.args.self).values ∙ ap length (sym c.as_slice-names.ensures)

pub rows_with-requires-clause-sections : goal.rows_with-requires-clause-sections
rows_with-requires-clause-sections c = (kept c.args.self).sections

pub rows_with-requires-clause-forms : goal.rows_with-requires-clause-forms
rows_with-requires-clause-forms c = ap length c.deref-2.ensures.value ∙ (kept c.args.self).forms

pub rows_with-requires-clause-each : goal.rows_with-requires-clause-each
rows_with-requires-clause-each c =
    let k = kept c.args.self in
    ap length c.in_ok-values.ensures.rows
    ∙ picked-length c.deref.result.now c.args.self.rows.form_of.items c.args.self.values.rows (k.forms ∙ sym k.values)
    ∙ k.values

pub rows_with-requires-clause-leads : goal.rows_with-requires-clause-leads
rows_with-requires-clause-leads c =
    subst (λ ns. LeadTo ns c.in_ok-values.values.targets) c.as_slice-names.ensures c.in_ok-values.ensures.leads

pub rows_with-requires-clause-refers : goal.rows_with-requires-clause-refers
rows_with-requires-clause-refers c =
    subst (λ ns. ReferTo ns c.in_ok-values.values.rows) c.as_slice-names.ensures c.in_ok-values.ensures.refers

pub returns : goal.returns
returns c =
    plain-rows c.args.self c.in_ok-orders.orders.items c.deref.result.now c.deref-3.result.now c.in_ok-orders.ensures
    c.deref.ensures.value c.deref-3.ensures.value c.deref-2.result.now c.deref-2.ensures.value
    c.in_ok-values.values.rows c.in_ok-values.ensures.rows c.rows_with.result c.rows_with.ensures

pub rows_with-requires-clause-indexed : goal.rows_with-requires-clause-indexed
rows_with-requires-clause-indexed c = (kept c.args.self).index
