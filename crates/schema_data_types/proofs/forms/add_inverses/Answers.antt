use Rattle.std.proofs.Common.{◌<◌, length, arith}
use Rattle.express_syntax.specs.Schemas.{Inverse}
use Rattle.express_syntax.specs.Views.{inverse_of}
use Rattle.schema_semantics.specs.Attributes.{collected}
use Rattle.schema_names.specs.Schemas.{the_schema}
use Rattle.schema_data_types.proofs.FormTables.{adds-next}
use Rattle.schema_data_types.proofs.forms.add_inverses.Goals as goal

pub loop-inverse-preserved : goal.loop-inverse-preserved
loop-inverse-preserved c =
    let xs = c.args.inverses.now in
    let at = c.loop-inverse.inverse-index in
    let lt : at < length xs = omega (arith, c.loop-inverse-test.true) in
    adds-next (the_schema c.args.names.now) inverse_of (λ (i : Inverse). collected i.collection i.entity) xs
    at
    c.inverse-item.result c.args.forms.now.items c.loop-inverse.forms.items c.add_inverse.new.forms.items
    c.args.row.now.items c.loop-inverse.row.items c.add_inverse.new.row.items lt c.inverse-item.is
    c.loop-inverse.invariant c.in_ok-add_inverse.ensures
