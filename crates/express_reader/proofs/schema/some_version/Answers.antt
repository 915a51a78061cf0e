use Rattle.std.proofs.Common.{[], ◌∷◌, sym, ◌∙◌}
use Rattle.std.proofs.lemmas.Result.{err_from_is_err_and}
use Rattle.express_lexer.specs.declared.marks.Mark.TheVariants as marks
use Rattle.express_token_runs.specs.steps.Items.{located_of}
use Rattle.express_syntax.specs.steps.Predict.{Just, Version, refused}
use Rattle.express_syntax.proofs.Taking.{passes_join, stops_behind}
use Rattle.express_reader.proofs.SchemaSteps.{stops_at, passes_unversioned, passes_version, version_is}
use Rattle.express_reader.proofs.schema.some_version.Goals as goal

pub returns-then-is_mark : goal.returns-then-is_mark
returns-then-is_mark c = (
  tt,
  passes_unversioned (located_of c.in_ok-item.item) c.args.reader.now c.take.new.self
      c.in_ok-item.ensures (sym c.is_mark.ensures ∙ c.if-is_mark.true),
)

pub returns-in_default : goal.returns-in_default
returns-in_default c =
    let s = located_of c.in_ok-item.item in
    stops_at c.refuse.result (refused s.lookahead) Version s c.args.reader.now c.take.new.self c.in_ok-item.ensures
    (c.in_default.ensures (sym c.is_mark.ensures ∙ c.if-is_mark.false)) c.refuse.ensures

pub returns-in_err-expect : goal.returns-in_err-expect
returns-in_err-expect c =
    let p = err_from_is_err_and c.from_residual-in_err-expect.result c.from_residual-in_err-expect.ensures.1 in
    rw (p.1, p.2) (stops_behind _ (Just marks.Semicolon ∷ []) []
    (passes_version c.in-Some.version (located_of c.in_ok-item.item) c.args.reader.now c.take.new.self
    c.in_ok-item.ensures c.in-Some.ensures) c.in_err-expect.ensures)

pub returns : goal.returns
returns c = (
  version_is c.in-Some.version,
  passes_join (passes_version c.in-Some.version (located_of c.in_ok-item.item)
      c.args.reader.now c.take.new.self c.in_ok-item.ensures c.in-Some.ensures) c.in_ok-expect.ensures,
)
