use Rattle.std.proofs.Common.{◌≡◌, suc}
use Rattle.step_values.specs.AgreementTests.{value_count}
use Rattle.step_values.specs.steps.Slots.{node_value}
use Rattle.step_values.proofs.Walks.{after}
use Rattle.step_values.proofs.Weights.{weight, weight_of}
use Rattle.row_signatures.specs.steps.ComputedFlat.{alike_each}
use Rattle.row_signatures.proofs.flat_values.+alike.Given as goal

abbrev pub decreases-values_alike : goal.decreases-values_alike
decreases-values_alike l = suc (weight l.v.now)

abbrev pub decreases-nodes_alike : goal.decreases-nodes_alike
decreases-nodes_alike l = weight (node_value l.v.now)

abbrev pub decreases-lists_alike : goal.decreases-lists_alike
decreases-lists_alike l = weight_of l.vs.now

-- what is left decides
abbrev pub invariant-lists_alike-loop-i : goal.invariant-lists_alike-loop-i
invariant-lists_alike-loop-i l = record {
  sizes : value_count l.vs ≡ value_count l.ws;
  rest : alike_each (after l.i l.vs) (after l.i l.ws) ≡ alike_each l.vs l.ws;
}
