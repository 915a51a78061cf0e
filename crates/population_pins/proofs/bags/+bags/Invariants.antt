use Rattle.std.proofs.Common.{suc}
use Rattle.conformance.specs.CollectionMembers.{InBagOf}
use Rattle.step_values.specs.steps.Slots.{node_value}
use Rattle.step_values.proofs.Walks.{after}
use Rattle.step_values.proofs.Weights.{weight, weight_of}
use Rattle.population_pins.specs.steps.Pinning.{PinsUpTo}
use Rattle.population_pins.proofs.bags.+bags.Given as goal

abbrev pub decreases-pin_in_bags : goal.decreases-pin_in_bags
decreases-pin_in_bags l = suc (weight l.value.now)

abbrev pub decreases-pin_in_bags_of_node : goal.decreases-pin_in_bags_of_node
decreases-pin_in_bags_of_node l = weight (node_value l.node.now)

abbrev pub decreases-pin_in_bags_of_each : goal.decreases-pin_in_bags_of_each
decreases-pin_in_bags_of_each l = weight_of l.values.now

abbrev pub invariant-pin_in_bags_of_each-loop-i : goal.invariant-pin_in_bags_of_each-loop-i
invariant-pin_in_bags_of_each-loop-i l =
    PinsUpTo (λ y. InBagOf l.in_sets y l.values) (λ y. InBagOf l.in_sets y (after l.i l.values)) l.fn.pinned l.pinned
