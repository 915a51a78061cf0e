use Rattle.std.proofs.lemmas.Result.{err_from_is_err_and}
use Rattle.step_exchange.proofs.HeadKeeping.{is_record, is_last, header_more, header_stops, header_over, header_less}
use Rattle.step_exchange.proofs.header.header.Goals as goal

pub returns-in_err-next_record : goal.returns-in_err-next_record
returns-in_err-next_record c =
    let p = err_from_is_err_and c.from_residual-in_err-next_record.result
    c.from_residual-in_err-next_record.ensures.1 in
    rw (p.1, p.2) (header_stops _ c.in_ok-place.place c.args.reader.now c.loop.reader c.loop.invariant
    c.in_err-next_record.ensures)

pub returns-then-not-branch : goal.returns-then-not-branch
returns-then-not-branch c = header_over c.in_ok-place.place c.args.reader.now c.loop.reader c.next_record.new.reader
    c.loop.invariant (is_last c.in_ok-next_record.field-0 c.loop.reader c.next_record.new.reader c.if-not-branch.true
    c.in_ok-next_record.ensures)

pub loop-smaller : goal.loop-smaller
loop-smaller c = header_less c.loop.reader c.next_record.new.reader (is_record c.in_ok-next_record.field-0 c.loop.reader
    c.next_record.new.reader c.if-not-branch.false c.in_ok-next_record.ensures)

pub loop-preserved : goal.loop-preserved
loop-preserved c = header_more c.in_ok-place.place c.args.reader.now c.loop.reader c.next_record.new.reader
    c.loop.invariant (is_record c.in_ok-next_record.field-0 c.loop.reader c.next_record.new.reader
    c.if-not-branch.false c.in_ok-next_record.ensures)
