use Rattle.std.proofs.lemmas.Result.{err_from_is_err_and}
use Rattle.step_records.specs.steps.Readers.{reading}
use Rattle.step_exchange.proofs.HeadSteps.{record_err_head, record_err_mark}
use Rattle.step_exchange.proofs.HeadKeeping.{line_kept}
use Rattle.step_exchange.proofs.header.line.Goals as goal

pub returns-in_err-head : goal.returns-in_err-head
returns-in_err-head c =
    let p = err_from_is_err_and c.from_residual.result c.from_residual.ensures.1 in
    rw (p.1, p.2) (record_err_head _ c.args.word.now (reading c.args.reader.now) c.in_err-head.ensures)

pub returns-in_err-expect : goal.returns-in_err-expect
returns-in_err-expect c =
    let p = err_from_is_err_and c.from_residual-in_err-expect.result c.from_residual-in_err-expect.ensures.1 in
    let h = c.in_ok-head.ensures in
    rw (p.1, p.2) (record_err_mark _ c.args.word.now (reading c.args.reader.now) h.p _ (reading c.head.new.reader)
    h.takes c.in_err-expect.ensures)

pub returns : goal.returns
returns c = line_kept c.args.word.now _ c.args.reader.now c.head.new.reader c.expect.new.reader c.in_ok-head.ensures
    c.in_ok-expect.ensures.0 c.in_ok-expect.ensures.1
