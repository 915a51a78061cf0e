use Rattle.std.proofs.Common.{◌<◌, length, arith}
use Rattle.express_syntax.specs.Schemas.{Explicit}
use Rattle.express_syntax.specs.Views.{explicit_of}
use Rattle.schema_names.specs.Schemas.{the_schema}
use Rattle.schema_data_types.proofs.FormTables.{adds-next}
use Rattle.schema_data_types.proofs.forms.add_explicits.Goals as goal

pub loop-explicit-preserved : goal.loop-explicit-preserved
loop-explicit-preserved c =
    let xs = c.args.explicits.now in
    let at = c.loop-explicit.explicit-index in
    let lt : at < length xs = omega (arith, c.loop-explicit-test.true) in
    adds-next (the_schema c.args.names.now) explicit_of (λ (x : Explicit). x.data_type) xs at
    c.explicit-item.result
    c.args.forms.now.items c.loop-explicit.forms.items c.add_data_type.new.forms.items c.args.row.now.items
    c.loop-explicit.row.items c.add_data_type.new.row.items lt c.explicit-item.is c.loop-explicit.invariant
    c.in_ok-add_data_type.ensures
