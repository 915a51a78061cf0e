use Rattle.std.proofs.lemmas.Result.{err_from_is_err_and}
use Rattle.step_records.specs.steps.Readers.{reading}
use Rattle.step_exchange.proofs.HeadSteps.{opening_err_start}
use Rattle.step_exchange.proofs.HeadKeeping.{first_stops, second_stops, third_stops, opening_kept}
use Rattle.step_exchange.proofs.header.opening.Goals as goal

pub returns-in_err-place : goal.returns-in_err-place
returns-in_err-place c =
    let p = err_from_is_err_and c.from_residual.result c.from_residual.ensures.1 in
    rw (p.1, p.2) (opening_err_start _ (reading c.args.reader.now) c.in_err-place.ensures)

pub returns-in_err-line : goal.returns-in_err-line
returns-in_err-line c =
    let p = err_from_is_err_and c.from_residual-in_err-line.result c.from_residual-in_err-line.ensures.1 in
    rw (p.1, p.2) (first_stops _ c.in_ok-place.place c.args.reader.now c.start.new.reader c.in_ok-place.ensures
    c.in_err-line.ensures)

pub returns-in_err-line-2 : goal.returns-in_err-line-2
returns-in_err-line-2 c =
    let p = err_from_is_err_and c.from_residual-in_err-line-2.result c.from_residual-in_err-line-2.ensures.1 in
    rw (p.1, p.2) (second_stops _ c.in_ok-place.place c.args.reader.now c.start.new.reader c.line.new.reader
    c.in_ok-place.ensures c.in_ok-line.ensures c.in_err-line-2.ensures)

pub returns-in_err-schema : goal.returns-in_err-schema
returns-in_err-schema c =
    let p = err_from_is_err_and c.from_residual-in_err-schema.result c.from_residual-in_err-schema.ensures.1 in
    rw (p.1, p.2) (third_stops _ c.in_ok-place.place c.args.reader.now c.start.new.reader c.line.new.reader
    c.line-2.new.reader c.in_ok-place.ensures c.in_ok-line.ensures c.in_ok-line-2.ensures c.in_err-schema.ensures)

pub returns : goal.returns
returns c = opening_kept c.in_ok-place.place c.args.reader.now c.start.new.reader c.line.new.reader c.line-2.new.reader
    c.schema.new.reader c.in_ok-place.ensures c.in_ok-line.ensures c.in_ok-line-2.ensures c.in_ok-schema.ensures
