use Rattle.std.proofs.Common.{◌∙◌, ◌+◌, ◌∷◌, sym, ap, subst, drop, arith}
use Rattle.std.specs.Option.{option_copied}
use Rattle.population_rows.specs.Index.{found}
use Rattle.step_values.specs.steps.Building.{Building}
use Rattle.parameter_fits.specs.steps.References.{AreFound}
use Rattle.parameter_fits.proofs.Pointwise.{places_stand}
use Rattle.typed_populations.specs.ValueOrder.{row_picked, rows_picked}
use Rattle.typed_populations.proofs.Turns.{drop-got, drop-item}
use Rattle.typed_populations.proofs.Copied.{row_found, row_made, row_next}
use Rattle.typed_populations.proofs.plain_rows.ordered_values.Goals as goal

pub push_row-requires-clause-indexed : goal.push_row-requires-clause-indexed
push_row-requires-clause-indexed c =
    let find = found c.args.rows.now.index in
    subst (λ names. AreFound names find) (sym c.loop-i.invariant.names)
    (places_stand c.args.names.now find c.requires.indexed)

pub push_row-requires-clause-within : goal.push_row-requires-clause-within
push_row-requires-clause-within c =
    row_found c.args.names.now (found c.args.rows.now.index) c.requires.indexed c.args.values.now.rows c.loop-i.i
    c.row.result c.row.ensures c.requires.all

pub loop-i-preserved : goal.loop-i-preserved
loop-i-preserved c =
    let orders = c.args.orders.now in
    let ns = c.args.rows.now.form_of.items in
    let rows = c.args.values.now.rows in
    let i = c.loop-i.i in
    let next = row_next orders ns rows i c.index.result.now c.row.result
    (drop-got ns i c.index.result.now (omega (arith, c.requires.forms, c.loop-i-test.true)) c.index.ensures)
    (drop-item rows i c.row.result c.row.ensures) in
    let here = ap (λ o. row_picked o c.row.result) c.order_at-order.ensures in
    record {
      names = ap (λ (b : Building). b.names) c.in_ok-push_row.ensures ∙ c.loop-i.invariant.names;
      pending = ap (λ (b : Building). b.pending) c.in_ok-push_row.ensures ∙ c.loop-i.invariant.pending;
      rows = row_made c.loop-i.builder c.push_row.new.builder
          (row_picked (option_copied c.order_at-order.result) c.row.result)
          (rows_picked orders (drop i ns) (drop i rows)) (rows_picked orders (drop (i + 1) ns) (drop (i + 1) rows))
          (rows_picked orders ns rows) c.in_ok-push_row.ensures
          (next ∙ ap (λ us. us ∷ rows_picked orders (drop (i + 1) ns) (drop (i + 1) rows)) (sym here))
          c.loop-i.invariant.rows;
    }
