use Rattle.std.proofs.Common.{take}
use Rattle.schema_names.specs.Schemas.{the_schema}
use Rattle.typed_populations.specs.ValueOrder.{AreOrders}
use Rattle.typed_populations.proofs.value_order.orders.Given as goal

abbrev pub invariant-loop-form : goal.invariant-loop-form
invariant-loop-form l = AreOrders (the_schema l.names) (take l.form-index l.forms) l.orders.items
