use Rattle.std.proofs.Common.{◌≡◌, take}
use Rattle.value_equality.specs.Views.{type_lists_of}
use Rattle.typed_populations.specs.ValueOrder.{types_each}
use Rattle.typed_populations.proofs.plain_rows.type_lists.Given as goal

abbrev pub invariant-loop-order : goal.invariant-loop-order
invariant-loop-order l = type_lists_of l.type_lists.items ≡ types_each (take l.order-index l.orders)
