use Rattle.std.proofs.lemmas.Result.{err_from_is_err_and}
use Rattle.step_records.specs.steps.Readers.{reading}
use Rattle.step_records.proofs.RecordSteps.{row_err_form, row_err_end}
use Rattle.step_records.proofs.Recording.{row_whole}
use Rattle.step_records.proofs.records.row.Goals as goal

pub returns-in_err-form : goal.returns-in_err-form
returns-in_err-form c =
    let p = err_from_is_err_and c.from_residual-in_err-form.result c.from_residual-in_err-form.ensures.1 in
    rw (p.1, p.2) (row_err_form _ (reading c.args.reader.now) (reading c.expect.new.reader) c.in_ok-expect.ensures.1
    c.in_err-form.ensures)

pub returns-in_err-expect-2 : goal.returns-in_err-expect-2
returns-in_err-expect-2 c =
    let p = err_from_is_err_and c.from_residual-in_err-expect-2.result c.from_residual-in_err-expect-2.ensures.1 in
    let v = c.in_ok-form.ensures in
    rw (p.1, p.2) (row_err_end _ v.form (reading c.args.reader.now) (reading c.expect.new.reader)
    (reading c.form.new.reader) c.in_ok-expect.ensures.1 (v.fits, v.passes) c.in_err-expect-2.ensures)

pub returns : goal.returns
returns c = row_whole c.pending_len-mark.result c.args.reader.now c.expect.new.reader c.form.new.reader
    c.expect-2.new.reader c.keep_list.new.self c.pending_len-mark.ensures c.in_ok-expect.ensures.0
    c.in_ok-expect.ensures.1 c.in_ok-form.ensures c.in_ok-expect-2.ensures.0 c.in_ok-expect-2.ensures.1
    c.in_ok-keep_list.ensures
