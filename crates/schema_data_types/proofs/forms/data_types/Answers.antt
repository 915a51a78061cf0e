use Rattle.std.proofs.Common.{◌<◌, length, arith, subst}
use Rattle.express_syntax.specs.Views.{declaration_of}
use Rattle.schema_names.specs.Schemas.{the_schema}
use Rattle.schema_data_types.specs.NumberedTypes.{whole_types}
use Rattle.schema_data_types.specs.steps.Growing.{Adds}
use Rattle.schema_data_types.proofs.FormTables.{next-declaration}
use Rattle.schema_data_types.proofs.forms.data_types.Goals as goal

pub loop-declaration-preserved : goal.loop-declaration-preserved
loop-declaration-preserved c =
    let xs = c.declarations-declaration-items.result.now in
    let at = c.loop-declaration.declaration-index in
    let lt : at < length xs = omega (arith, c.loop-declaration-test.true) in
    next-declaration (the_schema c.args.names.now) declaration_of xs at c.declaration-item.result
    c.loop-declaration.forms.items c.add_declaration.new.forms.items c.loop-declaration.rows.items
    c.push.new.self.items c.add_declaration.new.row lt c.declaration-item.is c.loop-declaration.invariant
    (subst (λ row. Adds (the_schema c.args.names.now) c.loop-declaration.forms.items row
    (whole_types (declaration_of c.declaration-item.result)) c.add_declaration.new.forms.items
    c.add_declaration.new.row.items) c.new-row.ensures.items c.in_ok-add_declaration.ensures)
    c.in_ok-push.ensures.items
