use Rattle.std.proofs.Common.{ap}
use Rattle.std.proofs.lemmas.Result.{err_from_is_err_and}
use Rattle.step_structures.specs.Words.{token, word_of}
use Rattle.step_structures.specs.Trees.{leaf}
use Rattle.step_structures.specs.steps.Predict.{Records}
use Rattle.step_records.specs.steps.Readers.{reading}
use Rattle.step_records.proofs.Looking.{stops_refused}
use Rattle.step_exchange.proofs.HeadSteps.{records_refused, more_err_keyed}
use Rattle.step_exchange.proofs.HeadKeeping.{record_more, record_stops, records_over, is_keyed, is_over}
use Rattle.step_exchange.proofs.header.next_record.Goals as goal

pub returns-in_default : goal.returns-in_default
returns-in_default c = stops_refused c.refuse.result Records c.in_ok-key.key (reading c.args.reader.now)
    (reading c.take.new.reader) c.in_ok-key.ensures.0 (records_refused c.in_ok-key.key.sort c.in_ok-key.key.text.now
    c.in_default.not-Keyword) c.refuse.ensures

pub returns-in_err-record_or_end : goal.returns-in_err-record_or_end
returns-in_err-record_or_end c =
    let p = err_from_is_err_and c.from_residual-in_err-record_or_end.result c.from_residual-in_err-record_or_end.ensures.1 in
    rw (p.1, p.2) (more_err_keyed _ c.in_ok-key.key c.in-Keyword.keyword.text.now (reading c.args.reader.now)
    (reading c.take.new.reader) c.in_ok-key.ensures.0
    (ap (λ s. token (word_of s c.in_ok-key.key.text.now)) c.in-Keyword.is) c.in_err-record_or_end.ensures)

pub returns-then-not-branch : goal.returns-then-not-branch
returns-then-not-branch c =
    let text = c.in-Keyword.keyword.text.now in
    records_over c.in_ok-key.key text c.args.reader.now c.take.new.reader c.record_or_end.new.reader
    c.in_ok-key.ensures.0 c.in_ok-key.ensures.1 (ap (λ s. token (word_of s c.in_ok-key.key.text.now)) c.in-Keyword.is)
    (is_over c.in_ok-record_or_end.field-0 c.in_ok-key.key text c.take.new.reader c.record_or_end.new.reader
    c.if-not-branch.true c.in_ok-record_or_end.ensures)

pub returns-in_err-expect : goal.returns-in_err-expect
returns-in_err-expect c =
    let p = err_from_is_err_and c.from_residual-in_err-expect.result c.from_residual-in_err-expect.ensures.1 in
    let text = c.in-Keyword.keyword.text.now in
    rw (p.1, p.2) (record_stops _ c.in_ok-key.key text c.args.reader.now c.take.new.reader c.record_or_end.new.reader
    c.in_ok-key.ensures.0 (ap (λ s. token (word_of s c.in_ok-key.key.text.now)) c.in-Keyword.is)
    (is_keyed c.in_ok-record_or_end.field-0 c.in_ok-key.key text c.take.new.reader c.record_or_end.new.reader
    c.if-not-branch.false c.in_ok-record_or_end.ensures) c.in_err-expect.ensures)

pub returns : goal.returns
returns c =
    let text = c.in-Keyword.keyword.text.now in
    record_more c.in_ok-key.key text c.pending_len-mark.result c.args.reader.now c.take.new.reader
    c.record_or_end.new.reader c.expect.new.reader c.keep_list.new.self c.pending_len-mark.ensures c.in_ok-key.ensures.0
    c.in_ok-key.ensures.1 (ap (λ s. token (word_of s c.in_ok-key.key.text.now)) c.in-Keyword.is)
    (ap (λ s. leaf (word_of s c.in_ok-key.key.text.now)) c.in-Keyword.is)
    (is_keyed c.in_ok-record_or_end.field-0 c.in_ok-key.key text c.take.new.reader c.record_or_end.new.reader
    c.if-not-branch.false c.in_ok-record_or_end.ensures) c.in_ok-expect.ensures.0 c.in_ok-expect.ensures.1
    c.in_ok-keep_list.ensures
