use Rattle.std.proofs.Common.{◌∙◌, ◌<◌, ◌^◌, ℕ, List, length, ap, sym, subst}
use Rattle.population_rows.specs.Index.{place_of}
use Rattle.typed_populations.proofs.Found.{kept}
use Rattle.typed_populations.proofs.RowsMade.{plain-rows}
use Rattle.typed_populations.proofs.population.Population.plain.Goals as goal

pub rows_with-requires-clause-sections : goal.rows_with-requires-clause-sections
rows_with-requires-clause-sections c = (kept c.args.self.now).sections

pub rows_with-requires-clause-forms : goal.rows_with-requires-clause-forms
rows_with-requires-clause-forms c = ap length c.deref-2.ensures.value ∙ (kept c.args.self.now).forms

pub returns : goal.returns
returns c =
    plain-rows c.args.self.now c.in_ok-orders.orders.items c.deref.result.now c.deref-3.result.now c.in_ok-orders.ensures
    c.deref.ensures.value c.deref-3.ensures.value c.deref-2.result.now c.deref-2.ensures.value
    c.in_ok-values.values.rows c.in_ok-values.ensures.rows c.rows_with.result c.rows_with.ensures

pub of-requires : goal.of-requires
of-requires c = record {
  few = subst (λ (ns : List ℕ). length ns < 2 ^ 32) (sym c.as_slice.ensures)
      (c.exchanges_are_named.ensures c.args.self.now.exchange.now).2;
}

pub rows_with-requires-clause-indexed : goal.rows_with-requires-clause-indexed
rows_with-requires-clause-indexed c =
    λ y. c.in_ok-index.ensures y ∙ ap (λ (ns : List ℕ). place_of ns y) c.as_slice.ensures
