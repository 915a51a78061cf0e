use Rattle.std.proofs.Common.{[], ◌≡◌}
use Rattle.std.proofs.lemmas.Result.{err_from_is_err_and}
use Rattle.step_structures.specs.Words.{located}
use Rattle.step_structures.specs.steps.Predict.{Quoted, EndOfText, refused}
use Rattle.step_exchange.proofs.DataSteps.{stops_at, string_refused, passes_string}
use Rattle.step_records.specs.steps.Readers.{reading}
use Rattle.step_exchange.proofs.data.string.Goals as goal

pub returns-in_err-token : goal.returns-in_err-token
returns-in_err-token c =
    let p = err_from_is_err_and c.from_residual.result c.from_residual.ensures.1 in
    rw (p.1, p.2) (c.in_err-token.ensures Quoted (λ (e : Quoted ≡ EndOfText). cc))

pub returns-in_default : goal.returns-in_default
returns-in_default c =
    let t = c.in_ok-token.token in
    stops_at c.refuse.result (refused (located t).lookahead) Quoted [] t (reading c.args.reader.now) (reading c.take.new.reader)
    c.in_ok-token.ensures.0 (string_refused t.sort t.text.now c.in_default.not-String) c.refuse.ensures

pub returns : goal.returns
returns c = (
  c.in_ok-token.ensures.1,
  passes_string c.in_ok-token.token c.in-String.text (reading c.args.reader.now) (reading c.take.new.reader)
      c.in_ok-token.ensures.0 c.in-String.is,
)
