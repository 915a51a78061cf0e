use Rattle.std.proofs.Common.{[], ◌∷◌, ◌++◌, map, sym, ◌∙◌, refl}
use Rattle.std.proofs.lemmas.Result.{err_from_is_err_and}
use Rattle.express_lexer.specs.declared.marks.Mark.TheVariants as marks
use Rattle.express_syntax.specs.declared.keyword.Keyword.TheVariants as keywords
use Rattle.express_syntax.specs.Words.{mark}
use Rattle.express_syntax.specs.WrittenSchemas.{said, words_of_data_type}
use Rattle.express_token_runs.specs.steps.Items.{located_of}
use Rattle.express_syntax.specs.Views.{attribute_of, data_type_of}
use Rattle.express_syntax.specs.steps.Predict.{Explicits}
use Rattle.express_syntax.proofs.Taking.{stops_first}
use Rattle.express_entities.proofs.AttributeSteps.{explicit_refused, explicit_stop, explicit_passes, explicit_words}
use Rattle.express_syntax.proofs.SameText.{passes_text, kept}
use Rattle.express_syntax.specs.Sources.{IsDataTypeOf}
use Rattle.express_entities.proofs.attributes.explicit.Goals as goal

pub returns-in_err-attributes-clause-read : goal.returns-in_err-attributes-clause-read
returns-in_err-attributes-clause-read c =
    let p = err_from_is_err_and c.from_residual-in_err-attributes.result c.from_residual-in_err-attributes.ensures.1 in
    rw (p.1, p.2) (stops_first _ (Explicits ∷ []) (located_of c.in_ok-next.next) c.in_ok-next.ensures
    (c.in_err-attributes.ensures Explicits refl))

pub returns-then-not-is_mark-clause-read : goal.returns-then-not-is_mark-clause-read
returns-then-not-is_mark-clause-read c =
    explicit_refused c.refuse.result (attribute_of c.args.first) (located_of c.in_ok-next.next) c.args.reader.now
    c.take.new.self (map attribute_of c.in_ok-attributes.attributes.items) (located_of c.in_ok-attributes.end)
    c.attributes.new.reader c.in_ok-next.ensures (c.in_ok-attributes.ensures Explicits refl).0
    (c.in_ok-attributes.ensures Explicits refl).1 (sym c.is_mark.ensures ∙ c.if-not-is_mark.true) c.refuse.ensures

pub returns-in_err-is_optional-clause-read : goal.returns-in_err-is_optional-clause-read
returns-in_err-is_optional-clause-read c =
    let p = err_from_is_err_and c.from_residual-in_err-is_optional.result c.from_residual-in_err-is_optional.ensures.1
    in
    rw (p.1, p.2) (explicit_stop _ (attribute_of c.args.first) (located_of c.in_ok-next.next) c.args.reader.now
    c.take.new.self (map attribute_of c.in_ok-attributes.attributes.items) (located_of c.in_ok-attributes.end)
    c.attributes.new.reader c.in_ok-next.ensures (c.in_ok-attributes.ensures Explicits refl).0
    (sym c.is_mark.ensures ∙ c.if-not-is_mark.false) c.in_err-is_optional.ensures.read)

pub returns-clause-read : goal.returns-clause-read
returns-clause-read c = (
  rw c.of.ensures ((c.in_ok-attributes.ensures Explicits refl).0.filled, c.in_ok-is_optional.ensures.read.0),
  _,
  rw c.of.ensures (explicit_words (attribute_of c.args.first) (map attribute_of c.in_ok-attributes.attributes.items)
      (c.in_ok-attributes.ensures Explicits refl).0.further (said keywords.Optional c.in_ok-is_optional.is_optional
      ++ words_of_data_type (data_type_of c.in_ok-is_optional.data_type) ++ mark marks.Semicolon ∷ [])
      (c.in_ok-attributes.ensures Explicits refl).0.words),
  explicit_passes (attribute_of c.args.first)
      (located_of c.in_ok-next.next) c.args.reader.now c.take.new.self
      (map attribute_of c.in_ok-attributes.attributes.items) (located_of c.in_ok-attributes.end)
      c.attributes.new.reader (said keywords.Optional c.in_ok-is_optional.is_optional
      ++ words_of_data_type (data_type_of c.in_ok-is_optional.data_type) ++ mark marks.Semicolon ∷ [])
      c.optional_data_type.new.reader c.in_ok-next.ensures (c.in_ok-attributes.ensures Explicits refl).0
      (sym c.is_mark.ensures ∙ c.if-not-is_mark.false) c.in_ok-is_optional.ensures.read.1,
)

pub returns-clause-text : goal.returns-clause-text
returns-clause-text c =
    let whole = explicit_passes (attribute_of c.args.first)
    (located_of c.in_ok-next.next) c.args.reader.now c.take.new.self
    (map attribute_of c.in_ok-attributes.attributes.items) (located_of c.in_ok-attributes.end)
    c.attributes.new.reader (said keywords.Optional c.in_ok-is_optional.is_optional
    ++ words_of_data_type (data_type_of c.in_ok-is_optional.data_type) ++ mark marks.Semicolon ∷ [])
    c.optional_data_type.new.reader c.in_ok-next.ensures (c.in_ok-attributes.ensures Explicits refl).0
    (sym c.is_mark.ensures ∙ c.if-not-is_mark.false) c.in_ok-is_optional.ensures.read.1 in
    kept IsDataTypeOf c.in_ok-is_optional.data_type (sym (passes_text c.in_ok-is_optional.ensures.read.1)
    ∙ passes_text whole) c.in_ok-is_optional.ensures.text
