use Rattle.std.proofs.Common.{[], ◌∷◌, ◌++◌, sym, ◌∙◌}
use Rattle.std.proofs.lemmas.Result.{err_from_is_err_and}
use Rattle.express_lexer.specs.declared.marks.Mark.TheVariants as marks
use Rattle.express_syntax.specs.Words.{mark}
use Rattle.express_token_runs.specs.steps.Items.{located_of}
use Rattle.express_syntax.specs.Views.{data_type_of}
use Rattle.express_syntax.specs.WrittenSchemas.{words_of_data_type}
use Rattle.express_entities.proofs.AttributeSteps.{optional_passes, optional_stops, data_type_passes, data_type_stops}
use Rattle.express_syntax.proofs.SameText.{shows_text, kept}
use Rattle.express_syntax.specs.Sources.{IsDataTypeOf}
use Rattle.express_entities.proofs.attributes.optional_data_type.Goals as goal

pub returns-in_err-data_type-clause-read : goal.returns-in_err-data_type-clause-read
returns-in_err-data_type-clause-read c =
    let p = err_from_is_err_and c.from_residual-in_err-data_type.result c.from_residual-in_err-data_type.ensures.1 in
    rw (p.1, p.2) (optional_stops _ (located_of c.in_ok-item.item) c.args.reader.now c.take.new.self
    c.in_ok-item.ensures (sym c.is_keyword.ensures ∙ c.if-is_keyword.true) c.in_err-data_type.ensures.read)

pub returns-then-is_keyword-clause-read : goal.returns-then-is_keyword-clause-read
returns-then-is_keyword-clause-read c = (
  c.in_ok-data_type.ensures.read.0,
  optional_passes (located_of c.in_ok-item.item) c.args.reader.now c.take.new.self
      (words_of_data_type (data_type_of c.in_ok-data_type.data_type) ++ mark marks.Semicolon ∷ [])
      c.data_type.new.reader c.in_ok-item.ensures (sym c.is_keyword.ensures ∙ c.if-is_keyword.true)
      c.in_ok-data_type.ensures.read.1,
)

pub returns-in_err-data_type-2-clause-read : goal.returns-in_err-data_type-2-clause-read
returns-in_err-data_type-2-clause-read c =
    let p = err_from_is_err_and c.from_residual-in_err-data_type-2.result c.from_residual-in_err-data_type-2.ensures.1
    in
    rw (p.1, p.2) (data_type_stops _ (located_of c.in_ok-item.item) c.args.reader.now c.take.new.self
    c.in_ok-item.ensures (sym c.is_keyword.ensures ∙ c.if-is_keyword.false) c.in_err-data_type-2.ensures.read)

pub returns-clause-read : goal.returns-clause-read
returns-clause-read c = (
  c.in_ok-data_type-2.ensures.read.0,
  data_type_passes (located_of c.in_ok-item.item) c.args.reader.now c.take.new.self
      (words_of_data_type (data_type_of c.in_ok-data_type-2.data_type) ++ mark marks.Semicolon ∷ [])
      c.data_type_from.new.reader c.in_ok-item.ensures (sym c.is_keyword.ensures ∙ c.if-is_keyword.false)
      c.in_ok-data_type-2.ensures.read.1,
)

pub returns-then-is_keyword-clause-text : goal.returns-then-is_keyword-clause-text
returns-then-is_keyword-clause-text c = kept IsDataTypeOf c.in_ok-data_type.data_type
    (shows_text _ _ _ c.in_ok-item.ensures) c.in_ok-data_type.ensures.text

pub returns-clause-text : goal.returns-clause-text
returns-clause-text c = kept IsDataTypeOf c.in_ok-data_type-2.data_type (shows_text _ _ _ c.in_ok-item.ensures)
    c.in_ok-data_type-2.ensures.text
