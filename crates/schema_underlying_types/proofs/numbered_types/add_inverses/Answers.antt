use Rattle.std.proofs.Common.{◌<◌, length, arith}
use Rattle.express_syntax.specs.Schemas.{Inverse}
use Rattle.express_syntax.specs.Views.{inverse_of}
use Rattle.schema_semantics.specs.Attributes.{collected}
use Rattle.schema_names.specs.Schemas.{the_schema}
use Rattle.schema_underlying_types.proofs.Going.{goes-next}
use Rattle.schema_underlying_types.proofs.numbered_types.add_inverses.Goals as goal

pub loop-inverse-preserved : goal.loop-inverse-preserved
loop-inverse-preserved c =
    let xs = c.args.inverses.now in
    let at = c.loop-inverse.inverse-index in
    let lt : at < length xs = omega (arith, c.loop-inverse-test.true) in
    goes-next (the_schema c.args.names.now) c.args.declared.now inverse_of
    (λ (x : Inverse). collected x.collection x.entity) xs at c.inverse-item.result c.args.bases.now.items
    c.loop-inverse.bases.items c.add_inverse.new.bases.items lt c.inverse-item.is c.loop-inverse.invariant
    c.in_ok-add_inverse.ensures
