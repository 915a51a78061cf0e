use Rattle.std.proofs.Common.{◌<◌, length, arith}
use Rattle.schema_explicit_attributes.specs.Places.{places_of}
use Rattle.schema_explicit_attributes.proofs.Whole.{next-declaration}
use Rattle.schema_explicit_attributes.proofs.attributes.explicit_attributes.Goals as goal

pub loop-declaration-preserved : goal.loop-declaration-preserved
loop-declaration-preserved c =
    let xs = c.deref-declaration-items.result.now in
    let at = c.loop-declaration.declaration-index in
    let lt : at < length xs = omega (arith, c.loop-declaration-test.true) in
    next-declaration xs at c.declaration-item.result (places_of c.loop-declaration.places.items)
    (places_of c.add_declaration.new.places.items) c.loop-declaration.own.items c.push.new.self.items c.in_ok-row.row lt
    c.declaration-item.is c.loop-declaration.invariant c.in_ok-row.ensures c.in_ok-push.ensures.items
