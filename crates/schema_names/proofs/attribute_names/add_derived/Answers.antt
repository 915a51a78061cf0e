use Rattle.std.proofs.Common.{◌<◌, ◌+◌, map, take, length, arith}
use Rattle.express_syntax.specs.Schemas.{Derived}
use Rattle.express_syntax.specs.Views.{derived_of, names_of}
use Rattle.schema_names.proofs.Rowed.{twice-more, names-more}
use Rattle.schema_names.proofs.attribute_names.add_derived.Goals as goal

pub loop-each-preserved : goal.loop-each-preserved
loop-each-preserved c =
    let xs = c.args.derived.now in
    let k = c.loop-each.each-index in
    let x = c.each-item.result in
    let lt : k < length xs = omega (arith, c.loop-each-test.true) in
    let attribute = λ (y : Derived). y.attribute in
    names-more (map attribute (map derived_of (take k xs))) (map attribute (map derived_of (take (k + 1) xs)))
    (derived_of x).attribute (names_of c.args.names.now.items) (names_of c.loop-each.names.items)
    (names_of c.add_own.new.names.items) (twice-more attribute derived_of xs k x lt c.each-item.is) c.loop-each.invariant
    c.in_ok-add_own.ensures
