use Rattle.std.proofs.Common.{◌≤◌, suc, length}
use Rattle.step_values.specs.steps.Slots.{node_value}
use Rattle.step_values.proofs.Walks.{after}
use Rattle.step_values.proofs.Weights.{weight, weight_of}
use Rattle.row_signatures.proofs.Referring.{Left}
use Rattle.row_signatures.proofs.references.+edges.Given as goal

abbrev pub decreases-push_edges : goal.decreases-push_edges
decreases-push_edges l = suc (weight l.value.now)

abbrev pub decreases-push_node_edges : goal.decreases-push_node_edges
decreases-push_node_edges l = weight (node_value l.node.now)

abbrev pub decreases-push_bag : goal.decreases-push_bag
decreases-push_bag l = suc (weight_of l.values.now)

abbrev pub decreases-push_each : goal.decreases-push_each
decreases-push_each l = weight_of l.values.now

abbrev pub invariant-push_each-loop-i : goal.invariant-push_each-loop-i
invariant-push_each-loop-i l = record {
  first : l.first ≤ length l.edges.items;
  left : Left l.input l.source l.first l.values l.fn.edges.items (after l.i l.values) l.edges.items;
}
