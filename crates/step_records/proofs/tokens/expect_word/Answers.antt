use Rattle.std.proofs.Common.{sym, ◌∙◌}
use Rattle.step_structures.specs.steps.Predict.{Say}
use Rattle.step_structures.specs.Words.{located}
use Rattle.step_records.specs.steps.Readers.{reading}
use Rattle.step_records.proofs.Looking.{word_refused, passes_word, stops_refused}
use Rattle.step_records.proofs.tokens.expect_word.Goals as goal

pub returns-then-not-is_word : goal.returns-then-not-is_word
returns-then-not-is_word c =
    stops_refused c.refuse.result (Say c.args.word.now) c.in_ok-token.token (reading c.args.reader.now)
    (reading c.take.new.reader) c.in_ok-token.ensures.0
    (word_refused c.args.word.now (located c.in_ok-token.token).lookahead (sym c.is_word.ensures
    ∙ c.if-not-is_word.true)) c.refuse.ensures

pub returns : goal.returns
returns c = (
  c.in_ok-token.ensures.1,
  passes_word c.args.word.now c.in_ok-token.token (reading c.args.reader.now)
      (reading c.take.new.reader) c.in_ok-token.ensures.0 (sym c.is_word.ensures ∙ c.if-not-is_word.false),
)
