use Rattle.std.proofs.Common.{◌<◌, length, arith}
use Rattle.express_syntax.specs.Views.{declaration_of}
use Rattle.schema_names.specs.steps.Enumerated.{IsItemRow}
use Rattle.schema_names.proofs.Ordered.{rows-more}
use Rattle.schema_names.proofs.enumeration_items.item_rows.Goals as goal

pub loop-declaration-preserved : goal.loop-declaration-preserved
loop-declaration-preserved c =
    let lt : c.loop-declaration.declaration-index < length c.args.declarations.now =
    omega (arith, c.loop-declaration-test.true) in
    rows-more (λ d v. IsItemRow (declaration_of d) v.items) c.args.declarations.now c.loop-declaration.declaration-index
    c.declaration-item.result c.loop-declaration.rows.items c.push.new.self.items c.in_ok-item_row.field-0 lt
    c.declaration-item.is c.loop-declaration.invariant c.in_ok-item_row.ensures c.in_ok-push.ensures.items
