use Rattle.std.proofs.Common.{[], sym, ◌∙◌, ◌≡◌}
use Rattle.std.proofs.lemmas.Result.{err_from_is_err_and}
use Rattle.step_structures.specs.Words.{located}
use Rattle.step_structures.specs.steps.Predict.{Behind, EndOfText, refused, heading_symbols}
use Rattle.step_records.proofs.Taking.{passes_join, stops_behind}
use Rattle.step_exchange.proofs.DataSteps.{stops_at, behind_refused, passes_behind, passes_opened}
use Rattle.step_records.specs.steps.Readers.{reading}
use Rattle.step_exchange.proofs.data.heading.Goals as goal

pub returns-in_err-behind : goal.returns-in_err-behind
returns-in_err-behind c =
    let p = err_from_is_err_and c.from_residual.result c.from_residual.ensures.1 in
    rw (p.1, p.2) (c.in_err-behind.ensures Behind (λ (e : Behind ≡ EndOfText). cc))

pub returns-then-is_mark : goal.returns-then-is_mark
returns-then-is_mark c = (
  c.in_ok-behind.ensures.1,
  passes_behind c.in_ok-behind.behind (reading c.args.reader.now) (reading c.take.new.reader) c.in_ok-behind.ensures.0
      (sym c.is_mark.ensures ∙ c.if-is_mark.true),
)

pub returns-then-not-is_mark : goal.returns-then-not-is_mark
returns-then-not-is_mark c =
    let s = (located c.in_ok-behind.behind).lookahead in
    stops_at c.refuse.result (refused s) Behind [] c.in_ok-behind.behind (reading c.args.reader.now) (reading c.take.new.reader)
    c.in_ok-behind.ensures.0 (behind_refused s (sym c.is_mark.ensures ∙ c.if-is_mark.false) (sym c.is_mark-2.ensures
    ∙ c.if-not-is_mark.true)) c.refuse.ensures

pub returns-in_err-names : goal.returns-in_err-names
returns-in_err-names c =
    let p = err_from_is_err_and c.from_residual-in_err-names.result c.from_residual-in_err-names.ensures.1 in
    rw (p.1, p.2) (stops_behind _ heading_symbols [] (passes_opened c.in_ok-behind.behind (reading c.args.reader.now)
    (reading c.take.new.reader) c.in_ok-behind.ensures.0 (sym c.is_mark-2.ensures ∙ c.if-not-is_mark.false)) c.in_err-names.ensures)

pub returns : goal.returns
returns c = (
  c.in_ok-names.ensures.0 ∙ c.in_ok-behind.ensures.1,
  passes_join (passes_opened c.in_ok-behind.behind (reading c.args.reader.now) (reading c.take.new.reader)
      c.in_ok-behind.ensures.0 (sym c.is_mark-2.ensures ∙ c.if-not-is_mark.false)) c.in_ok-names.ensures.1,
)
