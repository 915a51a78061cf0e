use Rattle.std.proofs.Common.{◌∙◌, map, refl}
use Rattle.std.proofs.lemmas.Result.{err_from_is_err_and}
use Rattle.express_syntax.specs.Grammar.{depth_limit}
use Rattle.express_entities.specs.declared.clauses.ClauseStart.TheVariants as starts
use Rattle.express_syntax.specs.Views.{inverse_of}
use Rattle.express_syntax.specs.WrittenSchemas.{words_of_inverse}
use Rattle.express_syntax.specs.Profile.{FitsInverse}
use Rattle.express_syntax.specs.steps.Predict.{inverses, behind_attribute}
use Rattle.express_entities.proofs.ClauseSteps.{begins_as, first_same, item_less, stand_push, stand_stops_front, stand_stops_item, stand_ended}
use Rattle.express_syntax.proofs.SameText.{passes_text, kept}
use Rattle.express_syntax.proofs.Lists.{every_push}
use Rattle.express_syntax.specs.Sources.{IsInverseOf}
use Rattle.express_entities.proofs.clauses.inverse_clause.Goals as goal

pub returns-in_err-attribute-clause-read : goal.returns-in_err-attribute-clause-read
returns-in_err-attribute-clause-read c =
    let p = err_from_is_err_and c.from_residual.result c.from_residual.ensures.1 in
    rw (p.1, p.2) (stand_stops_front _ inverses (FitsInverse depth_limit) words_of_inverse
    (map inverse_of c.loop-list.list.items) c.args.reader.now c.loop-list.reader c.loop-list.invariant.0
    c.in_err-attribute.ensures)

pub returns-in_err-item-in-Attribute-clause-read : goal.returns-in_err-item-in-Attribute-clause-read
returns-in_err-item-in-Attribute-clause-read c =
    let p = err_from_is_err_and c.from_residual-in_err-item-in-Attribute.result
    c.from_residual-in_err-item-in-Attribute.ensures.1 in
    let begins = begins_as inverses c.in_ok-attribute.field-0 (starts.Attribute c.in-Attribute.attribute)
    c.loop-list.reader c.take_start.new.reader c.in-Attribute.is c.in_ok-attribute.ensures in
    rw (p.1, p.2) (stand_stops_item _ inverses (FitsInverse depth_limit) words_of_inverse
    (map inverse_of c.loop-list.list.items) c.in-Attribute.attribute (behind_attribute inverses) c.args.reader.now
    c.loop-list.reader c.take_start.new.reader (first_same inverses c.in-Attribute.attribute refl)
    c.loop-list.invariant.0 begins c.in_err-item-in-Attribute.ensures.read)

pub loop-list-smaller : goal.loop-list-smaller
loop-list-smaller c =
    let begins = begins_as inverses c.in_ok-attribute.field-0 (starts.Attribute c.in-Attribute.attribute)
    c.loop-list.reader c.take_start.new.reader c.in-Attribute.is c.in_ok-attribute.ensures in
    item_less inverses c.in-Attribute.attribute (behind_attribute inverses) c.in_ok-item-in-Attribute.ensures.read.1
    c.loop-list.reader c.take_start.new.reader c.inverse.new.reader begins c.in_ok-item-in-Attribute.ensures.read.3

pub loop-list-preserved : goal.loop-list-preserved
loop-list-preserved c =
    let begins = begins_as inverses c.in_ok-attribute.field-0 (starts.Attribute c.in-Attribute.attribute)
    c.loop-list.reader c.take_start.new.reader c.in-Attribute.is c.in_ok-attribute.ensures in
    let e = passes_text begins ∙ passes_text c.loop-list.invariant.0.passes in (
      stand_push inverse_of inverses (FitsInverse depth_limit) words_of_inverse c.loop-list.list.items
          c.push.new.self.items c.in_ok-item-in-Attribute.item c.in-Attribute.attribute (behind_attribute inverses)
          c.args.reader.now c.loop-list.reader c.take_start.new.reader c.inverse.new.reader
          c.in_ok-push-in-Attribute.ensures.items (first_same inverses c.in-Attribute.attribute refl)
          c.loop-list.invariant.0
          begins c.in_ok-item-in-Attribute.ensures.read,
      rw c.in_ok-push-in-Attribute.ensures.items (every_push (IsInverseOf c.args.reader.now.text) c.loop-list.list.items
          c.in_ok-item-in-Attribute.item c.loop-list.invariant.1 (kept IsInverseOf c.in_ok-item-in-Attribute.item e
          c.in_ok-item-in-Attribute.ensures.text)),
    )

pub returns-in-Boundary-clause-read : goal.returns-in-Boundary-clause-read
returns-in-Boundary-clause-read c =
    let begins = begins_as inverses c.in_ok-attribute.field-0 (starts.Boundary c.in-Boundary.boundary)
    c.loop-list.reader c.take_start.new.reader c.in-Boundary.is c.in_ok-attribute.ensures in
    rw c.shrink_to_fit.ensures.items (stand_ended inverses (FitsInverse depth_limit) words_of_inverse
    (map inverse_of c.loop-list.list.items) c.in-Boundary.boundary c.args.reader.now c.loop-list.reader
    c.take_start.new.reader c.loop-list.invariant.0 begins)

pub returns-in-Boundary-clause-text : goal.returns-in-Boundary-clause-text
returns-in-Boundary-clause-text c = rw c.shrink_to_fit.ensures.items c.loop-list.invariant.1
