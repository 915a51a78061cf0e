use Rattle.std.proofs.Common.{[], ◌∷◌}
use Rattle.std.proofs.lemmas.Result.{err_from_is_err_and}
use Rattle.express_syntax.specs.declared.keyword.Keyword.TheVariants as keywords
use Rattle.express_syntax.specs.ExpressionViews.{capitals}
use Rattle.express_syntax.specs.Views.{if_some, attribute_of, collection_of}
use Rattle.express_syntax.specs.WrittenSchemas.{words_of_attribute, words_of_collection, words_of_holder}
use Rattle.express_syntax.specs.steps.Predict.{Inverted, Say, Id, Holder}
use Rattle.express_syntax.proofs.Taking.{passes_then, stops_next}
use Rattle.express_entities.proofs.AttributeSteps.{inverse_words}
use Rattle.express_syntax.proofs.SameText.{passes_text, kept}
use Rattle.express_syntax.specs.Sources.{IsCollectionOf}
use Rattle.express_entities.proofs.attributes.inverse.Goals as goal

pub returns-in_err-collection-clause-read : goal.returns-in_err-collection-clause-read
returns-in_err-collection-clause-read c =
    let p = err_from_is_err_and c.from_residual-in_err-collection.result c.from_residual-in_err-collection.ensures.1 in
    rw (p.1, p.2) (stops_next _ (Inverted ∷ []) (Say keywords.For ∷ Id ∷ Holder ∷ []) c.in_ok-expect.ensures
    c.in_err-collection.ensures.read)

pub returns-in_err-expect_keyword-clause-read : goal.returns-in_err-expect_keyword-clause-read
returns-in_err-expect_keyword-clause-read c =
    let p = err_from_is_err_and c.from_residual-in_err-expect_keyword.result
    c.from_residual-in_err-expect_keyword.ensures.1 in
    rw (p.1, p.2) (stops_next _ (Say keywords.For ∷ []) (Id ∷ Holder ∷ [])
    (passes_then c.in_ok-expect.ensures c.in_ok-collection.ensures.read.1) c.in_err-expect_keyword.ensures)

pub returns-in_err-first-clause-read : goal.returns-in_err-first-clause-read
returns-in_err-first-clause-read c =
    let p = err_from_is_err_and c.from_residual-in_err-first.result c.from_residual-in_err-first.ensures.1 in
    rw (p.1, p.2) (stops_next _ (Id ∷ []) (Holder ∷ [])
    (passes_then (passes_then c.in_ok-expect.ensures c.in_ok-collection.ensures.read.1) c.in_ok-expect_keyword.ensures)
    c.in_err-first.ensures)

pub returns-in_err-holder-clause-read : goal.returns-in_err-holder-clause-read
returns-in_err-holder-clause-read c =
    let p = err_from_is_err_and c.from_residual-in_err-holder.result c.from_residual-in_err-holder.ensures.1 in
    rw (p.1, p.2) (stops_next _ (Holder ∷ []) []
    (passes_then (passes_then (passes_then c.in_ok-expect.ensures c.in_ok-collection.ensures.read.1)
    c.in_ok-expect_keyword.ensures) c.in_ok-first.ensures) c.in_err-holder.ensures)

pub returns-clause-read : goal.returns-clause-read
returns-clause-read c = (
  c.in_ok-collection.ensures.read.0,
  _,
  inverse_words (words_of_attribute (attribute_of c.args.attribute))
      (words_of_collection (collection_of c.in_ok-collection.collection))
      (words_of_holder (if_some capitals c.in_ok-holder.holder)) (capitals c.in_ok-collection.entity)
      (capitals c.in_ok-holder.inverted) c.in_ok-holder.ensures.0 (capitals c.in_ok-first.first)
      c.in_ok-holder.ensures.1,
  passes_then
      (passes_then (passes_then (passes_then c.in_ok-expect.ensures c.in_ok-collection.ensures.read.1)
      c.in_ok-expect_keyword.ensures) c.in_ok-first.ensures) c.in_ok-holder.ensures.2,
)

pub returns-clause-text : goal.returns-clause-text
returns-clause-text c = kept IsCollectionOf c.in_ok-collection.collection (passes_text c.in_ok-expect.ensures)
    c.in_ok-collection.ensures.text
