use Rattle.std.proofs.Common.{◌≡◌, suc}
use Rattle.std.specs.Prelude.{◌&&◌}
use Rattle.step_values.specs.steps.Slots.{node_value}
use Rattle.step_values.proofs.Walks.{after}
use Rattle.step_values.proofs.Weights.{weight, weight_of}
use Rattle.row_signatures.specs.steps.ComputedFlat.{bagless_each}
use Rattle.row_signatures.proofs.Alike.{Left}
use Rattle.row_signatures.proofs.value_hashes.+feed.Given as goal

abbrev pub decreases-feed : goal.decreases-feed
decreases-feed g l = suc (weight l.value.now)

abbrev pub decreases-feed_node : goal.decreases-feed_node
decreases-feed_node g l = weight (node_value l.node.now)

abbrev pub decreases-feed_each : goal.decreases-feed_each
decreases-feed_each g l = weight_of l.values.now

abbrev pub invariant-feed_each-loop-i : goal.invariant-feed_each-loop-i
invariant-feed_each-loop-i g l = record {
  bagless : (l.is_bagless && bagless_each (after l.i l.values)) ≡ bagless_each l.values;
  fed : Left g.H.Hasher.write l.values l.fn.state (after l.i l.values) l.state;
}
