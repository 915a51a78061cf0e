use Rattle.std.proofs.Common.{[], ◌∷◌, refl}
use Rattle.std.proofs.lemmas.Result.{err_from_is_err_and}
use Rattle.express_lexer.specs.declared.marks.Mark.TheVariants as marks
use Rattle.express_syntax.specs.steps.Predict.{Just, Id}
use Rattle.express_syntax.proofs.Taking.{passes_then, stops_next}
use Rattle.express_entities.proofs.attributes.redeclared.Goals as goal

pub returns-in_err-entity : goal.returns-in_err-entity
returns-in_err-entity c =
    let p = err_from_is_err_and c.from_residual-in_err-entity.result c.from_residual-in_err-entity.ensures.1 in
    rw (p.1, p.2) (stops_next _ (Id ∷ []) (Just marks.Dot ∷ Id ∷ []) c.in_ok-expect.ensures c.in_err-entity.ensures)

pub returns-in_err-expect-2 : goal.returns-in_err-expect-2
returns-in_err-expect-2 c =
    let p = err_from_is_err_and c.from_residual-in_err-expect-2.result c.from_residual-in_err-expect-2.ensures.1 in
    rw (p.1, p.2) (stops_next _ (Just marks.Dot ∷ []) (Id ∷ [])
    (passes_then c.in_ok-expect.ensures c.in_ok-entity.ensures) c.in_err-expect-2.ensures)

pub returns-in_err-name : goal.returns-in_err-name
returns-in_err-name c =
    let p = err_from_is_err_and c.from_residual-in_err-name.result c.from_residual-in_err-name.ensures.1 in
    rw (p.1, p.2) (stops_next _ (Id ∷ []) [] (passes_then (passes_then c.in_ok-expect.ensures c.in_ok-entity.ensures)
    c.in_ok-expect-2.ensures) c.in_err-name.ensures)

pub returns : goal.returns
returns c = (
  _,
  refl,
  passes_then (passes_then (passes_then c.in_ok-expect.ensures c.in_ok-entity.ensures)
      c.in_ok-expect-2.ensures) c.in_ok-name.ensures,
)
