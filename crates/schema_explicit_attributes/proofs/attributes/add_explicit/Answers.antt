use Rattle.std.proofs.Common.{◌<◌, length, arith}
use Rattle.express_syntax.specs.ExpressionViews.{capitals}
use Rattle.express_syntax.specs.Views.{attribute_of}
use Rattle.schema_explicit_attributes.specs.Places.{places_of}
use Rattle.schema_explicit_attributes.proofs.Adding.{of_names, adds-next, names-joined}
use Rattle.schema_explicit_attributes.proofs.attributes.add_explicit.Goals as goal

pub loop-attribute-preserved : goal.loop-attribute-preserved
loop-attribute-preserved c =
    let xs = c.as_slice-attribute-items.result.now in
    let at = c.loop-attribute.attribute-index in
    let lt : at < length xs = omega (arith, c.loop-attribute-test.true) in
    adds-next attribute_of (of_names (capitals c.args.entity.now)) (names-joined (capitals c.args.entity.now)) xs at
    c.attribute-item.result (places_of c.args.places.now.items) (places_of c.loop-attribute.places.items)
    (places_of c.add_attribute.new.places.items) c.args.row.now.items c.loop-attribute.row.items
    c.add_attribute.new.row.items lt c.attribute-item.is c.loop-attribute.invariant c.in_ok-add_attribute.ensures
