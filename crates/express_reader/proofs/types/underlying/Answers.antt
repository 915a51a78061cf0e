use Rattle.std.proofs.lemmas.Result.{err_from_is_err_and}
use Rattle.std.proofs.Common.{sym, ◌∙◌}
use Rattle.express_token_runs.specs.steps.Items.{located_of}
use Rattle.express_syntax.specs.Views.{names_of, data_type_of}
use Rattle.express_reader.proofs.TypeSteps.{enumeration_unsaid, enumeration_stopped, enumeration_done, select_stopped, select_done, underlying_stopped, underlying_done}
use Rattle.express_syntax.proofs.SameText.{shows_text, kept}
use Rattle.express_syntax.specs.Sources.{IsDataTypeOf}
use Rattle.express_reader.proofs.types.underlying.Goals as goal

pub returns-in_err-expect_keyword-clause-read : goal.returns-in_err-expect_keyword-clause-read
returns-in_err-expect_keyword-clause-read c =
    let p = err_from_is_err_and c.from_residual-in_err-expect_keyword.result
    c.from_residual-in_err-expect_keyword.ensures.1 in
    rw (p.1, p.2) (enumeration_unsaid _ (located_of c.in_ok-first.first) c.args.reader.now c.take.new.self
    c.in_ok-first.ensures (sym c.is_keyword.ensures ∙ c.if-is_keyword.true) c.in_err-expect_keyword.ensures)

pub returns-in_err-items-clause-read : goal.returns-in_err-items-clause-read
returns-in_err-items-clause-read c =
    let p = err_from_is_err_and c.from_residual-in_err-items.result c.from_residual-in_err-items.ensures.1 in
    rw (p.1, p.2) (enumeration_stopped _ (located_of c.in_ok-first.first) c.args.reader.now c.take.new.self
    c.expect_keyword.new.self c.in_ok-first.ensures (sym c.is_keyword.ensures ∙ c.if-is_keyword.true)
    c.in_ok-expect_keyword.ensures c.in_err-items.ensures)

pub returns-then-is_keyword-clause-read : goal.returns-then-is_keyword-clause-read
returns-then-is_keyword-clause-read c =
    let h = c.in_ok-items.ensures in (
      h.0,
      enumeration_done (names_of c.in_ok-items.items.items) (located_of c.in_ok-first.first) c.args.reader.now
          c.take.new.self c.expect_keyword.new.self c.last_names.new.reader c.in_ok-first.ensures
          (sym c.is_keyword.ensures ∙ c.if-is_keyword.true) c.in_ok-expect_keyword.ensures h.1,
    )

pub returns-in_err-types-clause-read : goal.returns-in_err-types-clause-read
returns-in_err-types-clause-read c =
    let p = err_from_is_err_and c.from_residual-in_err-types.result c.from_residual-in_err-types.ensures.1 in
    rw (p.1, p.2) (select_stopped _ (located_of c.in_ok-first.first) c.args.reader.now c.take.new.self
    c.in_ok-first.ensures (sym c.is_keyword-2.ensures ∙ c.if-is_keyword-2.true) c.in_err-types.ensures)

pub returns-then-is_keyword-2-clause-read : goal.returns-then-is_keyword-2-clause-read
returns-then-is_keyword-2-clause-read c =
    let h = c.in_ok-types.ensures in (
      h.0,
      select_done (names_of c.in_ok-types.types.items) (located_of c.in_ok-first.first) c.args.reader.now
          c.take.new.self c.last_names-then-is_keyword-2.new.reader c.in_ok-first.ensures (sym c.is_keyword-2.ensures
          ∙ c.if-is_keyword-2.true) h.1,
    )

pub returns-in_err-data_type-clause-read : goal.returns-in_err-data_type-clause-read
returns-in_err-data_type-clause-read c =
    let p = err_from_is_err_and c.from_residual-in_err-data_type.result c.from_residual-in_err-data_type.ensures.1 in
    rw (p.1, p.2) (underlying_stopped _ (located_of c.in_ok-first.first) c.args.reader.now c.take.new.self
    c.in_ok-first.ensures (sym c.is_keyword.ensures ∙ c.if-is_keyword.false) (sym c.is_keyword-2.ensures
    ∙ c.if-is_keyword-2.false) c.in_err-data_type.ensures.read)

pub returns-clause-read : goal.returns-clause-read
returns-clause-read c = underlying_done (data_type_of c.in_ok-data_type.data_type) (located_of c.in_ok-first.first)
    c.args.reader.now c.take.new.self c.data_type_from.new.reader c.in_ok-first.ensures (sym c.is_keyword.ensures
    ∙ c.if-is_keyword.false) (sym c.is_keyword-2.ensures ∙ c.if-is_keyword-2.false) c.in_ok-data_type.ensures.read

pub returns-clause-text : goal.returns-clause-text
returns-clause-text c = kept IsDataTypeOf c.in_ok-data_type.data_type (shows_text _ _ _ c.in_ok-first.ensures)
    c.in_ok-data_type.ensures.text
