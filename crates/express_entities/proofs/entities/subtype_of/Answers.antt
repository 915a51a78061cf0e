use Rattle.std.proofs.Common.{sym, ◌∙◌}
use Rattle.std.proofs.lemmas.Result.{err_from_is_err_and}
use Rattle.express_token_runs.specs.steps.Items.{located_of}
use Rattle.express_syntax.specs.Views.{names_of}
use Rattle.express_entities.proofs.EntitySteps.{sub_err_names, sub_err_semicolon, sub_done}
use Rattle.express_entities.proofs.entities.subtype_of.Goals as goal

pub returns-in_err-entities : goal.returns-in_err-entities
returns-in_err-entities c =
    let p = err_from_is_err_and c.from_residual-in_err-entities.result c.from_residual-in_err-entities.ensures.1 in
    rw (p.1, p.2) (sub_err_names _ (located_of c.args.first) c.args.reader.now c.expect_keyword.new.self
    (sym c.is_keyword.ensures ∙ c.if-not-is_keyword.false) c.in_ok-expect_keyword.ensures c.in_err-entities.ensures)

pub returns-in_err-expect : goal.returns-in_err-expect
returns-in_err-expect c =
    let p = err_from_is_err_and c.from_residual-in_err-expect.result c.from_residual-in_err-expect.ensures.1 in
    rw (p.1, p.2) (sub_err_semicolon _ (names_of c.in_ok-entities.entities.items) (located_of c.args.first)
    c.args.reader.now c.expect_keyword.new.self c.names.new.reader (sym c.is_keyword.ensures
    ∙ c.if-not-is_keyword.false)
    c.in_ok-expect_keyword.ensures c.in_ok-entities.ensures.1 c.in_err-expect.ensures)

pub returns : goal.returns
returns c = (
  c.in_ok-entities.ensures.0,
  sub_done (names_of c.in_ok-entities.entities.items) (located_of c.args.first) c.args.reader.now
      c.expect_keyword.new.self c.names.new.reader c.expect.new.self (sym c.is_keyword.ensures
      ∙ c.if-not-is_keyword.false)
      c.in_ok-expect_keyword.ensures c.in_ok-entities.ensures.1 c.in_ok-expect.ensures,
)
