use Rattle.std.proofs.Common.{[], ◌∷◌, ◌∙◌}
use Rattle.std.proofs.lemmas.Result.{err_from_is_err_and}
use Rattle.step_lexer.specs.declared.token.Mark.TheVariants.{Open, Close, Comma, Semicolon}
use Rattle.step_structures.specs.steps.Predict.{Just, Quoted}
use Rattle.step_records.proofs.Taking.{passes_then, passes_more, stops_behind, stops_all}
use Rattle.step_records.specs.steps.Readers.{reading}
use Rattle.step_exchange.proofs.data.names.Goals as goal

pub returns-in_err-name : goal.returns-in_err-name
returns-in_err-name c =
    let p = err_from_is_err_and c.from_residual.result c.from_residual.ensures.1 in
    rw (p.1, p.2) (stops_all _ (Quoted ∷ []) (Just Comma ∷ Just Open ∷ Quoted ∷ Just Close ∷ Just Close ∷ Just Semicolon
    ∷ []) [] (reading c.args.reader.now) c.in_err-name.ensures)

pub returns-in_err-expect : goal.returns-in_err-expect
returns-in_err-expect c =
    let p = err_from_is_err_and c.from_residual-in_err-expect.result c.from_residual-in_err-expect.ensures.1 in
    rw (p.1, p.2) (stops_behind _ (Just Comma ∷ []) (Just Open ∷ Quoted ∷ Just Close ∷ Just Close ∷ Just Semicolon ∷ [])
    (passes_more (Just Comma ∷ Just Open ∷ Quoted ∷ Just Close ∷ Just Close ∷ Just Semicolon ∷ [])
    c.in_ok-name.ensures.1) c.in_err-expect.ensures)

pub returns-in_err-expect-2 : goal.returns-in_err-expect-2
returns-in_err-expect-2 c =
    let p = err_from_is_err_and c.from_residual-in_err-expect-2.result c.from_residual-in_err-expect-2.ensures.1 in
    rw (p.1, p.2) (stops_behind _ (Just Open ∷ []) (Quoted ∷ Just Close ∷ Just Close ∷ Just Semicolon ∷ [])
    (passes_then c.in_ok-name.ensures.1 (passes_more (Just Open ∷ Quoted ∷ Just Close ∷ Just Close ∷ Just Semicolon ∷ [])
    c.in_ok-expect.ensures.1)) c.in_err-expect-2.ensures)

pub returns-in_err-schema : goal.returns-in_err-schema
returns-in_err-schema c =
    let p = err_from_is_err_and c.from_residual-in_err-schema.result c.from_residual-in_err-schema.ensures.1 in
    rw (p.1, p.2) (stops_behind _ (Quoted ∷ []) (Just Close ∷ Just Close ∷ Just Semicolon ∷ [])
    (passes_then c.in_ok-name.ensures.1 (passes_then c.in_ok-expect.ensures.1 (passes_more (Quoted ∷ Just Close ∷ Just Close
    ∷ Just Semicolon ∷ []) c.in_ok-expect-2.ensures.1))) c.in_err-schema.ensures)

pub returns-in_err-expect-3 : goal.returns-in_err-expect-3
returns-in_err-expect-3 c =
    let p = err_from_is_err_and c.from_residual-in_err-expect-3.result c.from_residual-in_err-expect-3.ensures.1 in
    rw (p.1, p.2) (stops_behind _ (Just Close ∷ []) (Just Close ∷ Just Semicolon ∷ [])
    (passes_then c.in_ok-name.ensures.1 (passes_then c.in_ok-expect.ensures.1 (passes_then c.in_ok-expect-2.ensures.1
    (passes_more (Just Close ∷ Just Close ∷ Just Semicolon ∷ []) c.in_ok-schema.ensures.1)))) c.in_err-expect-3.ensures)

pub returns-in_err-expect-4 : goal.returns-in_err-expect-4
returns-in_err-expect-4 c =
    let p = err_from_is_err_and c.from_residual-in_err-expect-4.result c.from_residual-in_err-expect-4.ensures.1 in
    rw (p.1, p.2) (stops_behind _ (Just Close ∷ []) (Just Semicolon ∷ [])
    (passes_then c.in_ok-name.ensures.1 (passes_then c.in_ok-expect.ensures.1 (passes_then c.in_ok-expect-2.ensures.1
    (passes_then c.in_ok-schema.ensures.1 (passes_more (Just Close ∷ Just Semicolon ∷ []) c.in_ok-expect-3.ensures.1)))))
    c.in_err-expect-4.ensures)

pub returns-in_err-expect-5 : goal.returns-in_err-expect-5
returns-in_err-expect-5 c =
    let p = err_from_is_err_and c.from_residual-in_err-expect-5.result c.from_residual-in_err-expect-5.ensures.1 in
    rw (p.1, p.2) (stops_behind _ (Just Semicolon ∷ []) []
    (passes_then c.in_ok-name.ensures.1 (passes_then c.in_ok-expect.ensures.1 (passes_then c.in_ok-expect-2.ensures.1
    (passes_then c.in_ok-schema.ensures.1 (passes_then c.in_ok-expect-3.ensures.1 (passes_more (Just Semicolon ∷ [])
    c.in_ok-expect-4.ensures.1)))))) c.in_err-expect-5.ensures)

pub returns : goal.returns
returns c = (
  c.in_ok-expect-5.ensures.0 ∙ c.in_ok-expect-4.ensures.0 ∙ c.in_ok-expect-3.ensures.0 ∙ c.in_ok-schema.ensures.0
      ∙ c.in_ok-expect-2.ensures.0 ∙ c.in_ok-expect.ensures.0 ∙ c.in_ok-name.ensures.0,
  passes_then c.in_ok-name.ensures.1 (passes_then c.in_ok-expect.ensures.1 (passes_then c.in_ok-expect-2.ensures.1
      (passes_then c.in_ok-schema.ensures.1 (passes_then c.in_ok-expect-3.ensures.1 (passes_then
      c.in_ok-expect-4.ensures.1 c.in_ok-expect-5.ensures.1))))),
)
