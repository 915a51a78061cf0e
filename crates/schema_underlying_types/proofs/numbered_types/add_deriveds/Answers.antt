use Rattle.std.proofs.Common.{◌<◌, length, arith}
use Rattle.express_syntax.specs.Schemas.{Derived}
use Rattle.express_syntax.specs.Views.{derived_of}
use Rattle.schema_names.specs.Schemas.{the_schema}
use Rattle.schema_underlying_types.proofs.Going.{goes-next}
use Rattle.schema_underlying_types.proofs.numbered_types.add_deriveds.Goals as goal

pub loop-derived-preserved : goal.loop-derived-preserved
loop-derived-preserved c =
    let xs = c.args.deriveds.now in
    let at = c.loop-derived.derived-index in
    let lt : at < length xs = omega (arith, c.loop-derived-test.true) in
    goes-next (the_schema c.args.names.now) c.args.declared.now derived_of
    (λ (x : Derived). x.data_type) xs at c.derived-item.result c.args.bases.now.items
    c.loop-derived.bases.items c.add_data_type.new.bases.items lt c.derived-item.is c.loop-derived.invariant
    c.in_ok-add_data_type.ensures
