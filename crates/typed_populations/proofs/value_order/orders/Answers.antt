use Rattle.std.proofs.Common.{◌<◌, length, arith}
use Rattle.schema_names.specs.Schemas.{the_schema}
use Rattle.typed_populations.specs.ValueOrder.{IsOrder}
use Rattle.typed_populations.proofs.Orders.{zip-next}
use Rattle.typed_populations.proofs.value_order.orders.Goals as goal

pub loop-form-preserved : goal.loop-form-preserved
loop-form-preserved c =
    let lt : c.loop-form.form-index < length c.args.forms.now = omega (arith, c.loop-form-test.true) in
    zip-next (IsOrder (the_schema c.args.names.now)) c.args.forms.now c.loop-form.form-index
    c.form-item.result c.loop-form.orders.items c.push.new.self.items c.in_ok-order_of.field-0 lt c.form-item.is
    c.loop-form.invariant c.in_ok-order_of.ensures c.in_ok-push.ensures.items
