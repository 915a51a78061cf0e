use Rattle.std.proofs.Common.{sym, ◌∙◌}
use Rattle.step_structures.specs.Words.{located}
use Rattle.step_structures.specs.steps.Predict.{More}
use Rattle.step_records.specs.steps.Readers.{reading}
use Rattle.step_records.proofs.Looking.{stops_refused}
use Rattle.step_records.proofs.ParamSteps.{more_refused}
use Rattle.step_records.proofs.tokens.goes_on_any.Goals as goal

pub returns-then-not-is_mark : goal.returns-then-not-is_mark
returns-then-not-is_mark c = λ depth. stops_refused c.refuse.result (More depth) c.in_ok-token.token
    (reading c.args.reader.now) (reading c.take.new.reader) c.in_ok-token.ensures.0 (more_refused depth
    (located c.in_ok-token.token).lookahead (sym c.is_mark.ensures ∙ c.if-is_mark.false) (sym c.is_mark-2.ensures
    ∙ c.if-not-is_mark.true)) c.refuse.ensures
