use Rattle.std.proofs.Common.{◌<◌, length, arith, []}
use Rattle.express_syntax.specs.Views.{declaration_of}
use Rattle.schema_names.specs.Schemas.{the_schema}
use Rattle.schema_underlying_types.proofs.Going.{goes-declaration}
use Rattle.schema_underlying_types.proofs.numbered_types.numbered_bases.Goals as goal

pub loop-declaration-preserved : goal.loop-declaration-preserved
loop-declaration-preserved c =
    let xs = c.declarations-declaration-items.result.now in
    let at = c.loop-declaration.declaration-index in
    let lt : at < length xs = omega (arith, c.loop-declaration-test.true) in
    goes-declaration (the_schema c.args.names.now) c.args.declared.now declaration_of xs at
    c.declaration-item.result [] c.loop-declaration.bases.items c.add_declaration.new.bases.items lt
    c.declaration-item.is c.loop-declaration.invariant c.in_ok-add_declaration.ensures
