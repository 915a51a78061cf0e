use Rattle.std.proofs.Common.{◌∙◌, [], ◌∷◌, ◌++◌, false}
use Rattle.std.proofs.lemmas.Result.{err_from_is_err_and}
use Rattle.express_lexer.specs.declared.marks.Mark.TheVariants as marks
use Rattle.express_syntax.specs.Words.{mark}
use Rattle.express_syntax.specs.Views.{attribute_of, data_type_of, body_of}
use Rattle.express_syntax.specs.WrittenSchemas.{words_of_attribute, words_of_data_type, words_of_body}
use Rattle.express_syntax.specs.steps.Predict.{DataTypeThen, assignment, Running, in_rule}
use Rattle.express_syntax.proofs.Taking.{passes_then, stops_next}
use Rattle.express_entities.proofs.AttributeSteps.{derived_words}
use Rattle.express_syntax.proofs.SameText.{passes_text, kept}
use Rattle.express_syntax.specs.Sources.{IsDataTypeOf, IsBodyOf}
use Rattle.express_entities.proofs.attributes.derived.Goals as goal

pub returns-in_err-data_type-clause-read : goal.returns-in_err-data_type-clause-read
returns-in_err-data_type-clause-read c =
    let p = err_from_is_err_and c.from_residual-in_err-data_type.result c.from_residual-in_err-data_type.ensures.1 in
    rw (p.1, p.2) (stops_next _ (DataTypeThen 0 assignment ∷ []) (Running in_rule 0 [] false ∷ [])
    c.in_ok-expect.ensures c.in_err-data_type.ensures.read)

pub returns-in_err-body-clause-read : goal.returns-in_err-body-clause-read
returns-in_err-body-clause-read c =
    let p = err_from_is_err_and c.from_residual-in_err-body.result c.from_residual-in_err-body.ensures.1 in
    rw (p.1, p.2) (stops_next _ (Running in_rule 0 [] false ∷ []) []
    (passes_then c.in_ok-expect.ensures c.in_ok-data_type.ensures.read.1) c.in_err-body.ensures.read)

pub returns-clause-read : goal.returns-clause-read
returns-clause-read c = (
  (c.in_ok-data_type.ensures.read.0, c.in_ok-body.ensures.read.0),
  _,
  derived_words (words_of_attribute (attribute_of c.args.attribute))
      (words_of_data_type (data_type_of c.in_ok-data_type.data_type)) (words_of_body (body_of c.in_ok-body.body)
      ++ mark marks.Semicolon ∷ []),
  passes_then (passes_then c.in_ok-expect.ensures c.in_ok-data_type.ensures.read.1)
      c.in_ok-body.ensures.read.1,
)

pub returns-clause-text : goal.returns-clause-text
returns-clause-text c =
    let e = passes_text c.in_ok-expect.ensures in (
      kept IsDataTypeOf c.in_ok-data_type.data_type e c.in_ok-data_type.ensures.text,
      kept IsBodyOf c.in_ok-body.body (passes_text c.in_ok-data_type.ensures.read.1 ∙ e) c.in_ok-body.ensures.text,
    )
