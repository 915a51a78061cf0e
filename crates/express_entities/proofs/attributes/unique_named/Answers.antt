use Rattle.std.proofs.Common.{map, sym, ◌∙◌}
use Rattle.std.proofs.lemmas.Result.{err_from_is_err_and}
use Rattle.express_syntax.specs.ExpressionViews.{capitals}
use Rattle.express_token_runs.specs.steps.Items.{located_of}
use Rattle.express_syntax.specs.Views.{attribute_of}
use Rattle.express_entities.proofs.AttributeSteps.{labelled_passes, labelled_stops, labelled_stops_behind, named_passes, named_stops}
use Rattle.express_entities.proofs.attributes.unique_named.Goals as goal

pub returns-in_err-attribute : goal.returns-in_err-attribute
returns-in_err-attribute c =
    let p = err_from_is_err_and c.from_residual-in_err-attribute.result c.from_residual-in_err-attribute.ensures.1 in
    rw (p.1, p.2) (labelled_stops _ (located_of c.in_ok-next.next) c.args.reader.now c.take.new.self
    c.in_ok-next.ensures (sym c.is_mark.ensures ∙ c.if-is_mark.true) c.in_err-attribute.ensures)

pub returns-in_err-attributes : goal.returns-in_err-attributes
returns-in_err-attributes c =
    let p = err_from_is_err_and c.from_residual-in_err-attributes.result c.from_residual-in_err-attributes.ensures.1 in
    rw (p.1, p.2) (labelled_stops_behind _ (attribute_of c.in_ok-attribute.attribute) (located_of c.in_ok-next.next)
    c.args.reader.now c.take.new.self c.attribute.new.reader c.in_ok-next.ensures (sym c.is_mark.ensures
    ∙ c.if-is_mark.true) c.in_ok-attribute.ensures c.in_err-attributes.ensures)

pub returns-then-is_mark : goal.returns-then-is_mark
returns-then-is_mark c =
    let l = labelled_passes (capitals c.args.first) (attribute_of c.in_ok-attribute.attribute)
    (located_of c.in_ok-next.next) c.args.reader.now c.take.new.self
    (map attribute_of c.in_ok-attributes.attributes.items) c.in_ok-attributes.ensures.1 c.attribute.new.reader
    c.unique_attributes.new.reader c.in_ok-next.ensures (sym c.is_mark.ensures ∙ c.if-is_mark.true)
    c.in_ok-attribute.ensures c.in_ok-attributes.ensures.2 c.in_ok-attributes.ensures.3 in
    (c.in_ok-attributes.ensures.0, l.0, l.1, l.2)

pub returns-in_err-attributes-2 : goal.returns-in_err-attributes-2
returns-in_err-attributes-2 c =
    let p = err_from_is_err_and c.from_residual-in_err-attributes-2.result c.from_residual-in_err-attributes-2.ensures.1
    in
    rw (p.1, p.2) (named_stops _ (located_of c.in_ok-next.next) c.args.reader.now c.take.new.self c.in_ok-next.ensures
    (sym c.is_mark.ensures ∙ c.if-is_mark.false) c.in_err-attributes-2.ensures)

pub returns : goal.returns
returns c = (
  c.in_ok-attributes-2.ensures.filled,
  c.in_ok-attributes-2.ensures.further,
  c.in_ok-attributes-2.ensures.words,
  named_passes (capitals c.args.first) (located_of c.in_ok-next.next) c.args.reader.now c.take.new.self
      (map attribute_of c.in_ok-attributes-2.attributes.items) c.attributes_of_unique.new.reader c.in_ok-next.ensures
      (sym c.is_mark.ensures ∙ c.if-is_mark.false) c.in_ok-attributes-2.ensures,
)
