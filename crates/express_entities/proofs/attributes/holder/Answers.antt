use Rattle.std.proofs.Common.{sym, ◌∙◌, refl}
use Rattle.std.proofs.lemmas.Result.{err_from_is_err_and}
use Rattle.express_syntax.specs.ExpressionViews.{capitals}
use Rattle.express_token_runs.specs.steps.Items.{located_of}
use Rattle.express_entities.proofs.AttributeSteps.{holder_refused, holder_passes, holder_stops, holder_stops_behind, holder_none}
use Rattle.express_entities.proofs.attributes.holder.Goals as goal

pub returns-then-is_mark : goal.returns-then-is_mark
returns-then-is_mark c = (
  _,
  refl,
  holder_none (located_of c.in_ok-item.item) c.args.reader.now c.take.new.self c.in_ok-item.ensures
      (sym c.is_mark.ensures ∙ c.if-is_mark.true),
)

pub returns-then-not-is_mark : goal.returns-then-not-is_mark
returns-then-not-is_mark c =
    holder_refused c.refuse.result (located_of c.in_ok-item.item) c.args.reader.now c.take.new.self c.in_ok-item.ensures
    (sym c.is_mark.ensures ∙ c.if-is_mark.false) (sym c.is_mark-2.ensures ∙ c.if-not-is_mark.true) c.refuse.ensures

pub returns-in_err-inverted : goal.returns-in_err-inverted
returns-in_err-inverted c =
    let p = err_from_is_err_and c.from_residual-in_err-inverted.result c.from_residual-in_err-inverted.ensures.1 in
    rw (p.1, p.2) (holder_stops _ (located_of c.in_ok-item.item) c.args.reader.now c.take.new.self c.in_ok-item.ensures
    (sym c.is_mark-2.ensures ∙ c.if-not-is_mark.false) c.in_err-inverted.ensures)

pub returns-in_err-expect : goal.returns-in_err-expect
returns-in_err-expect c =
    let p = err_from_is_err_and c.from_residual-in_err-expect.result c.from_residual-in_err-expect.ensures.1 in
    rw (p.1, p.2) (holder_stops_behind _ (located_of c.in_ok-item.item) c.args.reader.now c.take.new.self
    (capitals c.in_ok-inverted.inverted) c.expect_name.new.self c.in_ok-item.ensures (sym c.is_mark-2.ensures
    ∙ c.if-not-is_mark.false) c.in_ok-inverted.ensures c.in_err-expect.ensures)

pub returns : goal.returns
returns c = (
  _,
  refl,
  holder_passes (located_of c.in_ok-item.item) c.args.reader.now c.take.new.self
      (capitals c.in_ok-inverted.inverted) c.expect_name.new.self c.expect.new.self c.in_ok-item.ensures
      (sym c.is_mark-2.ensures ∙ c.if-not-is_mark.false) c.in_ok-inverted.ensures c.in_ok-expect.ensures,
)
