use Rattle.std.proofs.Common.{sym, ap, ◌∙◌}
use Rattle.std.proofs.lemmas.Result.{err_from_is_err_and}
use Rattle.step_structures.specs.Trees.{leaf}
use Rattle.step_structures.specs.Words.{token, word_of}
use Rattle.step_records.specs.steps.Readers.{reading}
use Rattle.step_records.specs.steps.Records.{texts_of}
use Rattle.step_records.proofs.RecordSteps.{has_keyword_any, partial_twice, partial_err}
use Rattle.step_records.proofs.Recording.{partial_whole}
use Rattle.step_records.proofs.records.partial_record.Goals as goal

pub returns-then-has_keyword : goal.returns-then-has_keyword
returns-then-has_keyword c =
    partial_twice c.fault_at.result (texts_of c.args.words.now) c.args.first c.in-Keyword.keyword.text.now
    (reading c.args.reader.now) (ap (λ s. token (word_of s c.args.first.text.now)) c.in-Keyword.is)
    (sym (has_keyword_any c.in-Keyword.keyword.text.now c.args.words.now) ∙ sym c.has_keyword.ensures
    ∙ c.if-has_keyword.true) c.fault_at.ensures

pub returns-in_err-record : goal.returns-in_err-record
returns-in_err-record c =
    let p = err_from_is_err_and c.from_residual.result c.from_residual.ensures.1 in
    rw (p.1, p.2) (partial_err _ (texts_of c.args.words.now) c.args.first c.in-Keyword.keyword.text.now
    (reading c.args.reader.now) (ap (λ s. token (word_of s c.args.first.text.now)) c.in-Keyword.is)
    (sym (has_keyword_any c.in-Keyword.keyword.text.now c.args.words.now) ∙ sym c.has_keyword.ensures
    ∙ c.if-has_keyword.false) c.in_err-record.ensures)

pub returns : goal.returns
returns c =
    partial_whole (texts_of c.args.words.now) c.args.first c.in-Keyword.keyword c.pending_len-mark.result
    c.args.reader.now c.record.new.reader c.close_list.new.self
    (ap (λ s. token (word_of s c.args.first.text.now)) c.in-Keyword.is)
    (ap (λ s. leaf (word_of s c.args.first.text.now)) c.in-Keyword.is)
    (sym (has_keyword_any c.in-Keyword.keyword.text.now c.args.words.now) ∙ sym c.has_keyword.ensures
    ∙ c.if-has_keyword.false) c.pending_len-mark.ensures c.in_ok-record.ensures c.in_ok-close_list.ensures
