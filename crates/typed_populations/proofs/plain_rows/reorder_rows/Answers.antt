use Rattle.std.proofs.Common.{◌≡◌, ◌<◌, ◌∙◌, length, set, sym, ap, subst, arith}
use Rattle.std.specs.Option.{IfSome}
use Rattle.std.proofs.lemmas.List.{length-set}
use Rattle.step_values.specs.steps.Ordering.{row_at}
use Rattle.typed_populations.specs.ValueOrder.{CanMove, HasMoves, order_among, row_picked, rows_picked}
use Rattle.typed_populations.proofs.Moved.{order-moves, number-here, row-here, left-next, rows-next, rows-end}
use Rattle.typed_populations.proofs.plain_rows.reorder_rows.Goals as goal

pub reorder_row-requires-clause-row : goal.reorder_row-requires-clause-row
reorder_row-requires-clause-row c =
    let lt : c.loop-i.i < length c.args.rows.now.form_of.items = omega (arith, c.loop-i-test.true) in
    let each = c.requires.each in
    let long = c.loop-i.invariant.long in
    omega (arith, lt, each, long)

pub reorder_row-requires-clause-known : goal.reorder_row-requires-clause-known
reorder_row-requires-clause-known c =
    subst (λ o. IfSome o HasMoves) (sym c.order_at-order.ensures)
    (order-moves c.args.orders.now c.index.result.now c.requires.known)

pub reorder_row-requires-clause-fits : goal.reorder_row-requires-clause-fits
reorder_row-requires-clause-fits c =
    let ns = c.args.rows.now.form_of.items in
    let old = c.args.values.now.rows in
    let mid = c.loop-i.values.rows in
    let i = c.loop-i.i in
    let n = c.index.result.now in
    let lt : i < length ns = omega (arith, c.loop-i-test.true) in
    subst (λ o. CanMove o (row_at mid i)) (sym c.order_at-order.ensures)
    (c.requires.fits i n (row_at mid i)
    (number-here c.args.orders.now ns old mid mid old i n lt c.requires.each c.loop-i.invariant.long c.index.ensures
    c.loop-i.invariant.left)
    (row-here c.args.orders.now ns old mid mid old i n lt c.requires.each c.loop-i.invariant.long c.index.ensures
    c.loop-i.invariant.left))

pub returns-in_err-reorder_row-clause-targets : goal.returns-in_err-reorder_row-clause-targets
returns-in_err-reorder_row-clause-targets c = λ names h.
    c.in_err-reorder_row.ensures.targets names (c.loop-i.invariant.targets names h)

pub loop-i-preserved : goal.loop-i-preserved
loop-i-preserved c =
    let orders = c.args.orders.now in
    let ns = c.args.rows.now.form_of.items in
    let old = c.args.values.now.rows in
    let mid = c.loop-i.values.rows in
    let new = c.reorder_row.new.values.rows in
    let all = rows_picked orders ns old in
    let i = c.loop-i.i in
    let n = c.index.result.now in
    let lt : i < length ns = omega (arith, c.loop-i-test.true) in
    let is : new ≡ set mid i (row_picked (order_among orders n) (row_at mid i)) =
    c.in_ok-reorder_row.ensures.rows ∙ ap (λ o. set mid i (row_picked o (row_at mid i))) c.order_at-order.ensures in
    record {
      long = ap length is ∙ length-set mid i (row_picked (order_among orders n) (row_at mid i)) ∙ c.loop-i.invariant.long;
      left = left-next orders ns old mid new all i n lt c.requires.each c.loop-i.invariant.long c.index.ensures
          c.loop-i.invariant.left is;
      rows = rows-next orders ns old mid new all i n lt c.requires.each c.loop-i.invariant.long c.index.ensures
          c.loop-i.invariant.left is c.loop-i.invariant.rows;
      targets = λ names h. c.in_ok-reorder_row.ensures.targets names (c.loop-i.invariant.targets names h);
    }

pub returns-clause-rows : goal.returns-clause-rows
returns-clause-rows c =
    let orders = c.args.orders.now in
    let ns = c.args.rows.now.form_of.items in
    let old = c.args.values.now.rows in
    let past = c.loop-i-test.false in
    let each = c.requires.each in
    let long = c.loop-i.invariant.long in
    rows-end orders ns old c.loop-i.values.rows (rows_picked orders ns old) c.loop-i.i (omega (arith, past))
    (omega (arith, past, each, long)) c.loop-i.invariant.rows
