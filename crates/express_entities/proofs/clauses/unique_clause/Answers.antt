use Rattle.std.proofs.Common.{map, refl}
use Rattle.std.proofs.lemmas.Result.{err_from_is_err_and}
use Rattle.express_entities.specs.declared.clauses.ClauseStart.TheVariants as starts
use Rattle.express_syntax.specs.Views.{attribute_of, unique_of}
use Rattle.express_syntax.specs.WrittenSchemas.{words_of_unique}
use Rattle.express_syntax.specs.Profile.{FitsUnique}
use Rattle.express_syntax.specs.steps.Predict.{uniques}
use Rattle.express_entities.specs.steps.EntityParts.{behind_first}
use Rattle.express_entities.proofs.ClauseSteps.{begins_as, item_less, stand_push, stand_stops_front, stand_stops_item, stand_ended}
use Rattle.express_entities.proofs.clauses.unique_clause.Goals as goal

pub returns-in_err-attribute : goal.returns-in_err-attribute
returns-in_err-attribute c =
    let p = err_from_is_err_and c.from_residual.result c.from_residual.ensures.1 in
    rw (p.1, p.2) (stand_stops_front _ uniques FitsUnique words_of_unique (map unique_of c.loop-list.list.items)
    c.args.reader.now c.loop-list.reader c.loop-list.invariant c.in_err-attribute.ensures)

pub returns-in_err-item-in-Attribute : goal.returns-in_err-item-in-Attribute
returns-in_err-item-in-Attribute c =
    let p = err_from_is_err_and c.from_residual-in_err-item-in-Attribute.result
    c.from_residual-in_err-item-in-Attribute.ensures.1 in
    let begins = begins_as uniques c.in_ok-attribute.field-0 (starts.Attribute c.in-Attribute.attribute)
    c.loop-list.reader c.take_start.new.reader c.in-Attribute.is c.in_ok-attribute.ensures in
    rw (p.1, p.2) (stand_stops_item _ uniques FitsUnique words_of_unique (map unique_of c.loop-list.list.items)
    c.in-Attribute.attribute (behind_first uniques (attribute_of c.in-Attribute.attribute)) c.args.reader.now
    c.loop-list.reader c.take_start.new.reader refl c.loop-list.invariant begins c.in_err-item-in-Attribute.ensures)

pub loop-list-smaller : goal.loop-list-smaller
loop-list-smaller c =
    let begins = begins_as uniques c.in_ok-attribute.field-0 (starts.Attribute c.in-Attribute.attribute)
    c.loop-list.reader c.take_start.new.reader c.in-Attribute.is c.in_ok-attribute.ensures in
    item_less uniques c.in-Attribute.attribute (behind_first uniques (attribute_of c.in-Attribute.attribute))
    c.in_ok-item-in-Attribute.ensures.1 c.loop-list.reader c.take_start.new.reader c.unique_rule.new.reader begins
    c.in_ok-item-in-Attribute.ensures.3

pub loop-list-preserved : goal.loop-list-preserved
loop-list-preserved c =
    let begins = begins_as uniques c.in_ok-attribute.field-0 (starts.Attribute c.in-Attribute.attribute)
    c.loop-list.reader c.take_start.new.reader c.in-Attribute.is c.in_ok-attribute.ensures in
    stand_push unique_of uniques FitsUnique words_of_unique c.loop-list.list.items c.push.new.self.items
    c.in_ok-item-in-Attribute.item c.in-Attribute.attribute
    (behind_first uniques (attribute_of c.in-Attribute.attribute)) c.args.reader.now c.loop-list.reader
    c.take_start.new.reader c.unique_rule.new.reader
    c.in_ok-push-in-Attribute.ensures.items refl c.loop-list.invariant begins c.in_ok-item-in-Attribute.ensures

pub returns-in-Boundary : goal.returns-in-Boundary
returns-in-Boundary c =
    let begins = begins_as uniques c.in_ok-attribute.field-0 (starts.Boundary c.in-Boundary.boundary) c.loop-list.reader
    c.take_start.new.reader c.in-Boundary.is c.in_ok-attribute.ensures in
    rw c.shrink_to_fit.ensures.items (stand_ended uniques FitsUnique words_of_unique
    (map unique_of c.loop-list.list.items) c.in-Boundary.boundary c.args.reader.now c.loop-list.reader
    c.take_start.new.reader c.loop-list.invariant begins)
