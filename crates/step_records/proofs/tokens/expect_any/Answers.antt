use Rattle.std.proofs.Common.{sym, ◌∙◌}
use Rattle.step_structures.specs.steps.Predict.{Just}
use Rattle.step_structures.specs.Words.{located}
use Rattle.step_records.specs.steps.Readers.{reading}
use Rattle.step_records.proofs.Looking.{mark_refused, passes_mark, stops_refused}
use Rattle.step_records.proofs.tokens.expect_any.Goals as goal

pub returns-then-not-is_mark : goal.returns-then-not-is_mark
returns-then-not-is_mark c =
    stops_refused c.refuse.result (Just c.args.wanted) c.in_ok-token.token (reading c.args.reader.now)
    (reading c.take.new.reader) c.in_ok-token.ensures.0
    (mark_refused c.args.wanted (located c.in_ok-token.token).lookahead (sym c.is_mark.ensures ∙ c.if-not-is_mark.true))
    c.refuse.ensures

pub returns : goal.returns
returns c = (
  c.in_ok-token.ensures.1,
  passes_mark c.args.wanted c.in_ok-token.token (reading c.args.reader.now)
      (reading c.take.new.reader) c.in_ok-token.ensures.0 (sym c.is_mark.ensures ∙ c.if-not-is_mark.false),
)
