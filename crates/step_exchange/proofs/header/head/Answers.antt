use Rattle.std.proofs.Common.{sym, ap, ◌∙◌}
use Rattle.std.proofs.lemmas.Result.{err_from_is_err_and}
use Rattle.step_structures.specs.Words.{token, word_of}
use Rattle.step_structures.specs.steps.Predict.{Head}
use Rattle.step_structures.specs.Trees.{leaf}
use Rattle.step_records.proofs.Looking.{stops_refused}
use Rattle.step_exchange.proofs.HeadSteps.{head_refused, head_fault, head_err}
use Rattle.step_records.specs.steps.Readers.{reading}
use Rattle.step_exchange.proofs.HeadKeeping.{head_kept}
use Rattle.step_exchange.proofs.header.head.Goals as goal

pub returns-in_default : goal.returns-in_default
returns-in_default c = stops_refused c.refuse.result (Head c.args.word.now) c.in_ok-key.key (reading c.args.reader.now)
    (reading c.take.new.reader) c.in_ok-key.ensures.0 (head_refused c.args.word.now c.in_ok-key.key.sort c.in_ok-key.key.text.now
    c.in_default.not-Keyword) c.refuse.ensures

pub returns-then-not-is_said : goal.returns-then-not-is_said
returns-then-not-is_said c =
    head_fault c.fault_at.result c.args.word.now c.in_ok-key.key c.in-Keyword.keyword.text.now (reading c.args.reader.now)
    (reading c.take.new.reader) c.in_ok-key.ensures.0 (ap (λ s. token (word_of s c.in_ok-key.key.text.now)) c.in-Keyword.is)
    (sym c.is_said.ensures ∙ c.if-not-is_said.true) c.fault_at.ensures

pub returns-in_err-record : goal.returns-in_err-record
returns-in_err-record c =
    let p = err_from_is_err_and c.from_residual-in_err-record.result c.from_residual-in_err-record.ensures.1 in
    rw (p.1, p.2) (head_err _ c.args.word.now c.in_ok-key.key c.in-Keyword.keyword.text.now (reading c.args.reader.now)
    (reading c.take.new.reader) c.in_ok-key.ensures.0 (ap (λ s. token (word_of s c.in_ok-key.key.text.now)) c.in-Keyword.is)
    (sym c.is_said.ensures ∙ c.if-not-is_said.false) c.in_err-record.ensures)

pub returns : goal.returns
returns c =
    head_kept c.args.word.now c.in-Keyword.keyword.text.now c.in_ok-key.key c.pending_len-mark.result c.args.reader.now
    c.take.new.reader c.record.new.reader c.keep_list.new.self c.pending_len-mark.ensures c.in_ok-key.ensures.0
    c.in_ok-key.ensures.1 (ap (λ s. token (word_of s c.in_ok-key.key.text.now)) c.in-Keyword.is)
    (ap (λ s. leaf (word_of s c.in_ok-key.key.text.now)) c.in-Keyword.is) (sym c.is_said.ensures
    ∙ c.if-not-is_said.false) c.in_ok-record.ensures c.in_ok-keep_list.ensures
