use Rattle.std.proofs.Common.{◌≡◌, ◌∙◌, Some, set, sym, ap, subst}
use Rattle.std.specs.Option.{IfSome, option_copied}
use Rattle.std.specs.Prelude.{IsPermutation}
use Rattle.step_values.specs.steps.Ordering.{at_positions, positions_of, row_at}
use Rattle.typed_populations.specs.ValueOrder.{AreMoves, CanMove, FitMoves, HasMoves, row_picked}
use Rattle.typed_populations.proofs.Moved.{no-row-stays, row-stays, row-order, row-picked-is, once-moved}
use Rattle.typed_populations.proofs.plain_rows.reorder_row.Goals as goal

pub reorder-requires-clause-order : goal.reorder-requires-clause-order
reorder-requires-clause-order c =
    let vs = row_at c.args.values.now.rows c.args.row in
    let o = c.in-Some.order.now in
    let v = c.in-Moved.places in
    let known : HasMoves o = subst (λ x. IfSome (option_copied x) HasMoves) c.in-Some.is c.requires.known in
    let fits : CanMove (Some o) vs = subst (λ x. CanMove (option_copied x) vs) c.in-Some.is c.requires.fits in
    subst (IsPermutation (positions_of vs)) (sym c.deref.ensures.value)
    (row-order vs o.positions.items v (subst (AreMoves o.positions.items) c.in-Moved.is known)
    (subst (FitMoves vs) c.in-Moved.is fits))

pub returns-in_default-clause-rows : goal.returns-in_default-clause-rows
returns-in_default-clause-rows c =
    let rows = c.args.values.now.rows in
    let row = c.args.row in
    subst (λ x. rows ≡ set rows row (row_picked (option_copied x) (row_at rows row))) (sym c.in_default.is)
    (no-row-stays rows row (subst (λ x. CanMove (option_copied x) (row_at rows row)) c.in_default.is c.requires.fits))

pub returns-in_default-moves-clause-rows : goal.returns-in_default-moves-clause-rows
returns-in_default-moves-clause-rows c =
    let rows = c.args.values.now.rows in
    let row = c.args.row in
    let o = c.in-Some.order.now in
    subst (λ x. rows ≡ set rows row (row_picked (option_copied x) (row_at rows row))) (sym c.in-Some.is)
    (row-stays rows row o c.in_default-moves.not-Moved
    (subst (λ x. IfSome (option_copied x) HasMoves) c.in-Some.is c.requires.known)
    (subst (λ x. CanMove (option_copied x) (row_at rows row)) c.in-Some.is c.requires.fits))

pub returns-clause-rows : goal.returns-clause-rows
returns-clause-rows c =
    let rows = c.args.values.now.rows in
    let row = c.args.row in
    let vs = row_at rows row in
    let o = c.in-Some.order.now in
    let known : HasMoves o = subst (λ x. IfSome (option_copied x) HasMoves) c.in-Some.is c.requires.known in
    once-moved _ _ _ c.reorder.result c.reorder.ensures.rows
    (λ e. e ∙ ap (set rows row)
    (ap (at_positions vs) c.deref.ensures.value
    ∙ row-picked-is vs o c.in-Moved.places (subst (AreMoves o.positions.items) c.in-Moved.is known)
    ∙ ap (λ x. row_picked (option_copied x) vs) (sym c.in-Some.is)))
