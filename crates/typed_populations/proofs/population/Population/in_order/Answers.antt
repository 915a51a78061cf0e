use Rattle.std.proofs.Common.{◌≡◌, ◌∙◌, ℕ, List, Result, Ok, Err, IfOk, length, sym, ap, subst}
use Rattle.step_values.specs.steps.Building.{Kept}
use Rattle.step_values.specs.steps.Targets.{LeadTo, ReferTo}
use Rattle.population_rows.specs.Index.{place_of}
use Rattle.typed_populations.specs.ValueOrder.{rows_picked}
use Rattle.typed_populations.proofs.Found.{kept}
use Rattle.typed_populations.proofs.RowsMade.{picked-length}
use Rattle.typed_populations.proofs.population.Population.in_order.Goals as goal

pub ordered_values-requires-clause-indexed : goal.ordered_values-requires-clause-indexed
ordered_values-requires-clause-indexed c = λ y.
    (kept c.args.self.now).index y ∙ ap (λ (ns : List ℕ). place_of ns y) (sym c.as_slice-names.ensures)

pub ordered_values-requires-clause-all : goal.ordered_values-requires-clause-all
ordered_values-requires-clause-all c =
    subst (λ ns. ReferTo ns c.args.self.now.values.rows) (sym c.as_slice-names.ensures) (kept c.args.self.now).refers

pub ordered_values-requires-clause-forms : goal.ordered_values-requires-clause-forms
ordered_values-requires-clause-forms c = (kept c.args.self.now).forms ∙ ap length (sym c.as_slice-names.ensures)

pub ordered_values-requires-clause-each : goal.ordered_values-requires-clause-each
ordered_values-requires-clause-each c = (kept c.args.self.now).values ∙ ap length (sym c.as_slice-names.ensures)

pub returns-clause-each : goal.returns-clause-each
returns-clause-each c =
    each c.ordered_values.result c.ordered_values.ensures.rows
  where
    each : {E : Type 0} (r : Result Kept E) → IfOk r (λ v. v.rows ≡ rows_picked c.args.orders.now c.args.self.now.rows.form_of.items c.args.self.now.values.rows) → IfOk r (λ v. length v.rows ≡ length c.args.self.now.exchange.now.names)
    each (Ok v) e =
        ap length e
        ∙ picked-length c.args.orders.now c.args.self.now.rows.form_of.items c.args.self.now.values.rows
        ((kept c.args.self.now).forms ∙ sym (kept c.args.self.now).values)
        ∙ (kept c.args.self.now).values
    each (Err x) e = tt
