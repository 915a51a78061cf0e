use Rattle.std.proofs.Common.{refl, [], arith}
use Rattle.std.proofs.lemmas.Option.{slice_get-get_or}
use Rattle.parsing.specs.Nodes.{said_at}
use Rattle.step_structures.specs.Trees.{group, none}
use Rattle.step_records.specs.Cells.{parameters}
use Rattle.step_records.proofs.Joined.{first_taken, next_taken, all_taken, text_behind}
use Rattle.step_records.proofs.stretch.joined.Goals as goal

pub loop-cell-init : goal.loop-cell-init
loop-cell-init c = λ column. first_taken c.args.text.now column c.args.cells.now c.in_ok-first.further.now
    c.in_ok-first.first.now c.in_ok-all.all.from c.in_ok-all.all.end c.in_ok-first.ensures.cases.0
    (c.in_ok-all.ensures (said_at (parameters c.args.text.now) column))

pub literal_place-requires-in-loop-cell : goal.literal_place-requires-in-loop-cell
literal_place-requires-in-loop-cell c = text_behind c.args.text.now c.args.cells.now c.in_ok-first.further.now
    c.in_ok-first.first.now c.loop-cell.cell-index _ c.in_ok-first.ensures.cases.0
    (slice_get-get_or c.in_ok-first.further.now c.loop-cell.cell-index _ c.loop-cell-test.true) c.requires

pub comes_next-requires-clause-within : goal.comes_next-requires-clause-within
comes_next-requires-clause-within c =
    let there = (c.in_ok-next.ensures (λ _. group none)).0 in
    let before = there.before in
    let within = there.within in
    omega (arith, before, within)

pub comes_next-requires-clause-fits : goal.comes_next-requires-clause-fits
comes_next-requires-clause-fits c = (c.loop-cell.invariant []).0.within

pub loop-cell-preserved : goal.loop-cell-preserved
loop-cell-preserved c = λ column. next_taken c.args.text.now column c.args.cells.now c.in_ok-first.further.now
    c.in_ok-first.first.now c.loop-cell.cell-index _ c.loop-cell.all.from c.loop-cell.all.end c.in_ok-next.next.from
    c.in_ok-next.next.end c.in_ok-first.ensures.cases.0
    (slice_get-get_or c.in_ok-first.further.now c.loop-cell.cell-index _ c.loop-cell-test.true)
    (c.loop-cell.invariant column) (c.if-not-comes_next.ensures.comma refl) (c.if-not-comes_next.ensures.next refl)
    (c.in_ok-next.ensures (said_at (parameters c.args.text.now) column))

pub returns : goal.returns
returns c = λ column. all_taken c.args.text.now column c.args.cells.now c.in_ok-first.further.now
    c.in_ok-first.first.now c.loop-cell.cell-index c.loop-cell.all.from c.loop-cell.all.end
    c.in_ok-first.ensures.cases.0 c.loop-cell-test.false (c.loop-cell.invariant column)
