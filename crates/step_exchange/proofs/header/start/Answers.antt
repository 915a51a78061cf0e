use Rattle.std.proofs.Common.{ap, ◌≡◌, ◌∙◌}
use Rattle.std.proofs.lemmas.Result.{err_from_is_err_and}
use Rattle.step_structures.specs.Words.{token, word_of}
use Rattle.step_structures.specs.steps.Predict.{Start, EndOfText}
use Rattle.step_records.proofs.Looking.{stops_refused}
use Rattle.step_exchange.proofs.HeadSteps.{start_refused, start_err, start_err_mark, start_err_word, start_err_last, start_done}
use Rattle.step_records.specs.steps.Readers.{reading}
use Rattle.step_exchange.proofs.header.start.Goals as goal

pub returns-in_err-first : goal.returns-in_err-first
returns-in_err-first c =
    let p = err_from_is_err_and c.from_residual.result c.from_residual.ensures.1 in
    rw (p.1, p.2) (start_err _ (reading c.args.reader.now) (c.in_err-first.ensures Start (λ (e : Start ≡ EndOfText). cc)))

pub returns-in_default : goal.returns-in_default
returns-in_default c = start_err c.refuse.result (reading c.args.reader.now)
    (stops_refused c.refuse.result Start c.in_ok-first.first (reading c.args.reader.now) (reading c.take.new.reader) c.in_ok-first.ensures.0
    (start_refused c.in_ok-first.first.sort c.in_ok-first.first.text.now c.in_default.not-Begin) c.refuse.ensures)

pub returns-in_err-expect : goal.returns-in_err-expect
returns-in_err-expect c =
    let p = err_from_is_err_and c.from_residual-in_err-expect.result c.from_residual-in_err-expect.ensures.1 in
    rw (p.1, p.2) (start_err_mark _ c.in_ok-first.first (reading c.args.reader.now) (reading c.take.new.reader) c.in_ok-first.ensures.0
    (ap (λ s. token (word_of s c.in_ok-first.first.text.now)) c.in-Begin.is) c.in_err-expect.ensures)

pub returns-in_err-expect_word : goal.returns-in_err-expect_word
returns-in_err-expect_word c =
    let p = err_from_is_err_and c.from_residual-in_err-expect_word.result c.from_residual-in_err-expect_word.ensures.1
    in
    rw (p.1, p.2) (start_err_word _ c.in_ok-first.first (reading c.args.reader.now) (reading c.take.new.reader) (reading c.expect.new.reader)
    c.in_ok-first.ensures.0 (ap (λ s. token (word_of s c.in_ok-first.first.text.now)) c.in-Begin.is)
    c.in_ok-expect.ensures.1 c.in_err-expect_word.ensures)

pub returns-in_err-expect-2 : goal.returns-in_err-expect-2
returns-in_err-expect-2 c =
    let p = err_from_is_err_and c.from_residual-in_err-expect-2.result c.from_residual-in_err-expect-2.ensures.1 in
    rw (p.1, p.2) (start_err_last _ c.in_ok-first.first (reading c.args.reader.now) (reading c.take.new.reader) (reading c.expect.new.reader)
    (reading c.expect_word.new.reader) c.in_ok-first.ensures.0 (ap (λ s. token (word_of s c.in_ok-first.first.text.now))
    c.in-Begin.is) c.in_ok-expect.ensures.1 c.in_ok-expect_word.ensures.1 c.in_err-expect-2.ensures)

pub returns : goal.returns
returns c = record {
  same = c.in_ok-expect-2.ensures.0 ∙ c.in_ok-expect_word.ensures.0 ∙ c.in_ok-expect.ensures.0
      ∙ c.in_ok-first.ensures.1;
  starts = start_done c.in_ok-first.first (reading c.args.reader.now) (reading c.take.new.reader)
      (reading c.expect.new.reader) (reading c.expect_word.new.reader) (reading c.expect-2.new.reader)
      c.in_ok-first.ensures.0 (ap (λ s. token (word_of s c.in_ok-first.first.text.now)) c.in-Begin.is)
      c.in_ok-expect.ensures.1 c.in_ok-expect_word.ensures.1 c.in_ok-expect-2.ensures.1;
}
