use Rattle.std.proofs.Common.{suc}
use Rattle.step_values.specs.steps.Slots.{node_value}
use Rattle.step_values.proofs.Walks.{after}
use Rattle.step_values.proofs.Weights.{weight, weight_of}
use Rattle.typed_populations.proofs.Copied.{PushesUpTo}
use Rattle.typed_populations.proofs.copies.+copies.Given as goal

abbrev pub invariant-push_copies-loop-i : goal.invariant-push_copies-loop-i
invariant-push_copies-loop-i l = PushesUpTo l.initial.builder l.builder l.values (after l.i l.values)

abbrev pub decreases-push_copy : goal.decreases-push_copy
decreases-push_copy a = suc (weight a.value.now)

abbrev pub decreases-push_node : goal.decreases-push_node
decreases-push_node a = weight (node_value a.node.now)

abbrev pub decreases-push_copies : goal.decreases-push_copies
decreases-push_copies a = weight_of a.values.now
