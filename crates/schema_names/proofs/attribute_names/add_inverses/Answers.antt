use Rattle.std.proofs.Common.{◌<◌, ◌+◌, map, take, length, arith}
use Rattle.express_syntax.specs.Schemas.{Inverse}
use Rattle.express_syntax.specs.Views.{inverse_of, names_of}
use Rattle.schema_names.proofs.Rowed.{twice-more, names-more}
use Rattle.schema_names.proofs.attribute_names.add_inverses.Goals as goal

pub loop-each-preserved : goal.loop-each-preserved
loop-each-preserved c =
    let xs = c.args.inverses.now in
    let k = c.loop-each.each-index in
    let x = c.each-item.result in
    let lt : k < length xs = omega (arith, c.loop-each-test.true) in
    let attribute = λ (y : Inverse). y.attribute in
    names-more (map attribute (map inverse_of (take k xs))) (map attribute (map inverse_of (take (k + 1) xs)))
    (inverse_of x).attribute (names_of c.args.names.now.items) (names_of c.loop-each.names.items)
    (names_of c.add_own.new.names.items) (twice-more attribute inverse_of xs k x lt c.each-item.is) c.loop-each.invariant
    c.in_ok-add_own.ensures
