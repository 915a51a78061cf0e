use Rattle.std.proofs.Common.{◌<◌, length, arith}
use Rattle.express_syntax.specs.Schemas.{Explicit}
use Rattle.express_syntax.specs.Views.{explicit_of}
use Rattle.schema_names.specs.Schemas.{the_schema}
use Rattle.schema_underlying_types.proofs.Going.{goes-next}
use Rattle.schema_underlying_types.proofs.numbered_types.add_explicits.Goals as goal

pub loop-explicit-preserved : goal.loop-explicit-preserved
loop-explicit-preserved c =
    let xs = c.args.explicits.now in
    let at = c.loop-explicit.explicit-index in
    let lt : at < length xs = omega (arith, c.loop-explicit-test.true) in
    goes-next (the_schema c.args.names.now) c.args.declared.now explicit_of
    (λ (x : Explicit). x.data_type) xs at c.explicit-item.result c.args.bases.now.items
    c.loop-explicit.bases.items c.add_data_type.new.bases.items lt c.explicit-item.is c.loop-explicit.invariant
    c.in_ok-add_data_type.ensures
