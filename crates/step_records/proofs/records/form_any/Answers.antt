use Rattle.std.proofs.Common.{sym, ap, ◌∙◌}
use Rattle.step_structures.specs.Trees.{leaf}
use Rattle.step_structures.specs.Words.{token, word_of}
use Rattle.step_structures.specs.steps.Predict.{Body}
use Rattle.step_records.specs.steps.Readers.{reading}
use Rattle.step_records.proofs.RecordSteps.{body_refused}
use Rattle.step_records.proofs.Looking.{stops_refused}
use Rattle.step_records.proofs.Recording.{form_partials, form_record}
use Rattle.step_records.proofs.records.form_any.Goals as goal

pub returns-then-is_mark : goal.returns-then-is_mark
returns-then-is_mark c = form_partials c.partial_records.result c.in_ok-first.first c.args.reader.now
    c.take.new.reader c.partial_records.new.reader c.in_ok-first.ensures.0 c.in_ok-first.ensures.1
    (sym c.is_mark.ensures ∙ c.if-is_mark.true) c.partial_records.ensures

pub returns : goal.returns
returns c = form_record c.record.result c.in_ok-first.first c.in-Keyword.field-0.text.now c.args.reader.now
    c.take.new.reader c.record.new.reader c.in_ok-first.ensures.0 c.in_ok-first.ensures.1
    (ap (λ s. token (word_of s c.in_ok-first.first.text.now)) c.in-Keyword.is)
    (ap (λ s. leaf (word_of s c.in_ok-first.first.text.now)) c.in-Keyword.is) c.record.ensures

pub returns-in_default : goal.returns-in_default
returns-in_default c =
    stops_refused c.refuse.result Body c.in_ok-first.first (reading c.args.reader.now) (reading c.take.new.reader)
    c.in_ok-first.ensures.0 (body_refused c.in_ok-first.first.sort c.in_ok-first.first.text.now
    c.in_default.not-Keyword (sym c.is_mark.ensures ∙ c.if-is_mark.false)) c.refuse.ensures
