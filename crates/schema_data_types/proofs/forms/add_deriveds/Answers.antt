use Rattle.std.proofs.Common.{◌<◌, length, arith}
use Rattle.express_syntax.specs.Schemas.{Derived}
use Rattle.express_syntax.specs.Views.{derived_of}
use Rattle.schema_names.specs.Schemas.{the_schema}
use Rattle.schema_data_types.proofs.FormTables.{adds-next}
use Rattle.schema_data_types.proofs.forms.add_deriveds.Goals as goal

pub loop-derived-preserved : goal.loop-derived-preserved
loop-derived-preserved c =
    let xs = c.args.deriveds.now in
    let at = c.loop-derived.derived-index in
    let lt : at < length xs = omega (arith, c.loop-derived-test.true) in
    adds-next (the_schema c.args.names.now) derived_of (λ (x : Derived). x.data_type) xs at
    c.derived-item.result
    c.args.forms.now.items c.loop-derived.forms.items c.add_data_type.new.forms.items c.args.row.now.items
    c.loop-derived.row.items c.add_data_type.new.row.items lt c.derived-item.is c.loop-derived.invariant
    c.in_ok-add_data_type.ensures
