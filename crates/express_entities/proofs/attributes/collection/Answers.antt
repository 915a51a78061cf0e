use Rattle.std.proofs.Common.{[], ap, sym, ◌∙◌, refl}
use Rattle.std.proofs.lemmas.Result.{err_from_is_err_and}
use Rattle.express_syntax.specs.declared.keyword.Keyword.TheVariants as keywords
use Rattle.express_syntax.specs.Words.{name, word_of}
use Rattle.express_syntax.specs.ExpressionViews.{capitals}
use Rattle.express_token_runs.specs.steps.Items.{located_of}
use Rattle.express_syntax.specs.Views.{if_some, bounds_of}
use Rattle.express_syntax.specs.WrittenSchemas.{words_of_some_bounds}
use Rattle.express_syntax.specs.Texts.{token}
use Rattle.express_syntax.specs.steps.Predict.{Inverted}
use Rattle.express_syntax.proofs.Looking.{keyword_met, stops_refused}
use Rattle.express_syntax.proofs.Taking.{passes_token}
use Rattle.express_entities.proofs.AttributeSteps.{grouped_passes, grouped_stops, grouped_stops_behind, collection_refused}
use Rattle.express_syntax.proofs.SameText.{shows_text, kept}
use Rattle.express_syntax.specs.Sources.{IsBoundsOf}
use Rattle.express_syntax.specs.Profile.{Maybe}
use Rattle.express_entities.proofs.attributes.collection.Goals as goal

pub returns-in_err-bounds-clause-read : goal.returns-in_err-bounds-clause-read
returns-in_err-bounds-clause-read c =
    let p = err_from_is_err_and c.from_residual-in_err-bounds.result c.from_residual-in_err-bounds.ensures.1 in
    rw (p.1, p.2) (grouped_stops _ keywords.Set (located_of c.in_ok-item.item) c.args.reader.now c.take.new.self refl
    c.in_ok-item.ensures (keyword_met keywords.Set (located_of c.in_ok-item.item).lookahead
    (sym c.is_keyword.ensures ∙ c.if-is_keyword.true)) c.in_err-bounds.ensures.read)

pub returns-in_err-entity-clause-read : goal.returns-in_err-entity-clause-read
returns-in_err-entity-clause-read c =
    let p = err_from_is_err_and c.from_residual-in_err-entity.result c.from_residual-in_err-entity.ensures.1 in
    rw (p.1, p.2) (grouped_stops_behind _ keywords.Set (located_of c.in_ok-item.item) c.args.reader.now c.take.new.self
    _ c.some_bounds.new.reader refl c.in_ok-item.ensures
    (keyword_met keywords.Set (located_of c.in_ok-item.item).lookahead (sym c.is_keyword.ensures
    ∙ c.if-is_keyword.true)) c.in_ok-bounds.ensures.read.1 c.in_err-entity.ensures)

pub returns-then-is_keyword-clause-read : goal.returns-then-is_keyword-clause-read
returns-then-is_keyword-clause-read c = (
  c.in_ok-bounds.ensures.read.0,
  grouped_passes keywords.Set (located_of c.in_ok-item.item) c.args.reader.now
      c.take.new.self (words_of_some_bounds (if_some bounds_of c.in_ok-bounds.bounds)) c.some_bounds.new.reader
      (capitals c.in_ok-entity.entity) c.expect_name.new.self refl c.in_ok-item.ensures
      (keyword_met keywords.Set (located_of c.in_ok-item.item).lookahead (sym c.is_keyword.ensures
      ∙ c.if-is_keyword.true)) c.in_ok-bounds.ensures.read.1 c.in_ok-entity.ensures,
)

pub returns-in_err-bounds-2-clause-read : goal.returns-in_err-bounds-2-clause-read
returns-in_err-bounds-2-clause-read c =
    let p = err_from_is_err_and c.from_residual-in_err-bounds-2.result c.from_residual-in_err-bounds-2.ensures.1 in
    rw (p.1, p.2) (grouped_stops _ keywords.Bag (located_of c.in_ok-item.item) c.args.reader.now c.take.new.self refl
    c.in_ok-item.ensures (keyword_met keywords.Bag (located_of c.in_ok-item.item).lookahead
    (sym c.is_keyword-2.ensures ∙ c.if-is_keyword-2.true)) c.in_err-bounds-2.ensures.read)

pub returns-in_err-entity-2-clause-read : goal.returns-in_err-entity-2-clause-read
returns-in_err-entity-2-clause-read c =
    let p = err_from_is_err_and c.from_residual-in_err-entity-2.result c.from_residual-in_err-entity-2.ensures.1 in
    rw (p.1, p.2) (grouped_stops_behind _ keywords.Bag (located_of c.in_ok-item.item) c.args.reader.now c.take.new.self
    _ c.some_bounds-then-is_keyword-2.new.reader refl c.in_ok-item.ensures
    (keyword_met keywords.Bag (located_of c.in_ok-item.item).lookahead (sym c.is_keyword-2.ensures
    ∙ c.if-is_keyword-2.true)) c.in_ok-bounds-2.ensures.read.1 c.in_err-entity-2.ensures)

pub returns-then-is_keyword-2-clause-read : goal.returns-then-is_keyword-2-clause-read
returns-then-is_keyword-2-clause-read c = (
  c.in_ok-bounds-2.ensures.read.0,
  grouped_passes keywords.Bag (located_of c.in_ok-item.item) c.args.reader.now
      c.take.new.self (words_of_some_bounds (if_some bounds_of c.in_ok-bounds-2.bounds))
      c.some_bounds-then-is_keyword-2.new.reader (capitals c.in_ok-entity-2.entity)
      c.expect_name-then-is_keyword-2.new.self refl c.in_ok-item.ensures
      (keyword_met keywords.Bag (located_of c.in_ok-item.item).lookahead (sym c.is_keyword-2.ensures
      ∙ c.if-is_keyword-2.true)) c.in_ok-bounds-2.ensures.read.1 c.in_ok-entity-2.ensures,
)

pub returns-in-Name-clause-read : goal.returns-in-Name-clause-read
returns-in-Name-clause-read c = (
  tt,
  passes_token Inverted [] (name (capitals c.in-Name.entity)) (located_of c.in_ok-item.item) c.args.reader.now
      c.take.new.self c.in_ok-item.ensures (ap (λ l. token (word_of l)) c.in-Name.is) refl,
)

pub returns-in_default-clause-read : goal.returns-in_default-clause-read
returns-in_default-clause-read c =
    stops_refused c.refuse.result Inverted (located_of c.in_ok-item.item) c.args.reader.now c.take.new.self
    c.in_ok-item.ensures (collection_refused c.in_ok-item.item.lexeme c.in_default.not-Name
    (sym c.is_keyword.ensures ∙ c.if-is_keyword.false) (sym c.is_keyword-2.ensures ∙ c.if-is_keyword-2.false))
    c.refuse.ensures

pub returns-then-is_keyword-clause-text : goal.returns-then-is_keyword-clause-text
returns-then-is_keyword-clause-text c = kept (λ t b. Maybe (IsBoundsOf t) b) c.in_ok-bounds.bounds
    (shows_text _ _ _ c.in_ok-item.ensures) c.in_ok-bounds.ensures.text

pub returns-then-is_keyword-2-clause-text : goal.returns-then-is_keyword-2-clause-text
returns-then-is_keyword-2-clause-text c = kept (λ t b. Maybe (IsBoundsOf t) b) c.in_ok-bounds-2.bounds
    (shows_text _ _ _ c.in_ok-item.ensures) c.in_ok-bounds-2.ensures.text
