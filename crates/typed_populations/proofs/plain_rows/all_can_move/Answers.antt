use Rattle.std.proofs.Common.{◌<◌, ◌∙◌, Some, length, option_copied, sym, ap, subst, arith}
use Rattle.std.specs.Bool.{OnTrue}
use Rattle.std.proofs.lemmas.Option.{slice_get-get_or, slice_get_within}
use Rattle.typed_populations.specs.ValueOrder.{CanMove}
use Rattle.typed_populations.proofs.Moved.{can-next}
use Rattle.typed_populations.proofs.plain_rows.all_can_move.Goals as goal

pub loop-i-preserved : goal.loop-i-preserved
loop-i-preserved c =
    let ns = c.args.rows.now.form_of.items in
    let i = c.loop-i.i in
    let n = c.index.result.now in
    let vs = c.row.result in
    let lt : i < length ns = omega (arith, c.loop-i-test.true) in
    can-next c.args.orders.now ns c.args.values.now.rows i n vs (slice_get-get_or ns i n lt ∙ ap Some (sym c.index.ensures))
    c.row.ensures
    (subst (λ o. CanMove o vs) c.order_at.ensures
    (subst (λ b. OnTrue b (CanMove (option_copied c.order_at.result) vs)) c.if-not-can_move.false c.can_move.ensures))
    c.loop-i.invariant

pub returns : goal.returns
returns c k n vs a b =
    let lt = slice_get_within c.args.rows.now.form_of.items k n a in
    let past = c.loop-i-test.false in
    c.loop-i.invariant k n vs (omega (arith, lt, past)) a b
