use Rattle.std.proofs.Common.{◌≡◌, ◌++◌, map, take}
use Rattle.typed_populations.specs.ValueOrder.{position_among}
use Rattle.typed_populations.proofs.value_order.push_positions.Given as goal

abbrev pub invariant-loop-number : goal.invariant-loop-number
invariant-loop-number l =
    l.positions.items ≡ l.fn.positions.items ++ map (position_among l.slots) (take l.number-index l.numbers)
