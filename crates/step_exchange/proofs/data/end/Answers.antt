use Rattle.std.proofs.Common.{[], ◌∷◌}
use Rattle.std.proofs.lemmas.Result.{err_from_is_err_and}
use Rattle.step_lexer.specs.declared.token.Mark.TheVariants.{Semicolon}
use Rattle.step_structures.specs.steps.Predict.{Just, EndOfText}
use Rattle.step_records.specs.steps.Readers.{reading}
use Rattle.step_exchange.proofs.DataSteps.{stops_first, end_done}
use Rattle.step_exchange.proofs.data.end.Goals as goal

pub returns-in_err-expect : goal.returns-in_err-expect
returns-in_err-expect c =
    let p = err_from_is_err_and c.from_residual.result c.from_residual.ensures.1 in
    rw (p.1, p.2) (stops_first _ (Just Semicolon) (EndOfText ∷ []) (reading c.args.reader.now) c.in_err-expect.ensures)

pub returns : goal.returns
returns c = end_done c.end_of_text.result c.args.reader.now c.expect.new.reader c.end_of_text.new.reader
    c.in_ok-expect.ensures.0 c.in_ok-expect.ensures.1 c.end_of_text.ensures
