use Rattle.std.proofs.Common.{refl, ◌+◌, []}
use Rattle.std.proofs.lemmas.Option.{slice_get-get_or}
use Rattle.step_records.proofs.Joined.{next_taken, got_behind}
use Rattle.step_records.proofs.Runs.{one_builds}
use Rattle.step_records.proofs.stretch.side_by_side.Goals as goal

pub place-requires-in-loop-cell : goal.place-requires-in-loop-cell
place-requires-in-loop-cell c = one_builds c.args.text.now c.args.column.now c.args.cells.now []
    (c.loop-cell.cell-index + 1) _ (got_behind c.args.text.now c.args.cells.now c.in_ok-first.further.now
    c.in_ok-first.first.now c.loop-cell.cell-index _ c.in_ok-first.ensures.cases.0
    (slice_get-get_or c.in_ok-first.further.now c.loop-cell.cell-index _ c.loop-cell-test.true)) c.requires

pub loop-cell-preserved : goal.loop-cell-preserved
loop-cell-preserved c = next_taken c.args.text.now c.args.column.now c.args.cells.now c.in_ok-first.further.now
    c.in_ok-first.first.now c.loop-cell.cell-index _ c.loop-cell.all.from c.loop-cell.all.end c.in_ok-next.next.from
    c.in_ok-next.next.end c.in_ok-first.ensures.cases.0
    (slice_get-get_or c.in_ok-first.further.now c.loop-cell.cell-index _ c.loop-cell-test.true)
    c.loop-cell.invariant (c.if-not-comes_next.ensures.comma refl) (c.if-not-comes_next.ensures.next refl) c.in_ok-next.ensures
