use Rattle.std.proofs.Common.{◌<◌, ◌+◌, map, take, length, arith}
use Rattle.express_syntax.specs.Views.{attribute_of, names_of}
use Rattle.schema_names.proofs.Rowed.{mapped-more, names-more}
use Rattle.schema_names.proofs.attribute_names.add_together.Goals as goal

pub loop-attribute-preserved : goal.loop-attribute-preserved
loop-attribute-preserved c =
    let xs = c.args.attributes.now in
    let k = c.loop-attribute.attribute-index in
    let x = c.attribute-item.result in
    let lt : k < length xs = omega (arith, c.loop-attribute-test.true) in
    names-more (map attribute_of (take k xs)) (map attribute_of (take (k + 1) xs)) (attribute_of x)
    (names_of c.args.names.now.items) (names_of c.loop-attribute.names.items) (names_of c.add_own.new.names.items)
    (mapped-more attribute_of xs k x lt c.attribute-item.is) c.loop-attribute.invariant c.in_ok-add_own.ensures
