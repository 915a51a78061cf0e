use Rattle.std.proofs.Common.{◌≡◌, suc}
use Rattle.step_values.specs.AgreementTests.{value_count}
use Rattle.step_values.specs.LabelledValues.{same_each_by}
use Rattle.step_values.specs.steps.Slots.{node_value}
use Rattle.step_values.proofs.Walks.{after}
use Rattle.step_values.proofs.Weights.{weight, weight_of}
use Rattle.step_values.proofs.value_agreement.+agree.Given as goal

abbrev pub decreases-values_agree : goal.decreases-values_agree
decreases-values_agree g l = suc (weight l.v.now)

abbrev pub decreases-nodes_agree : goal.decreases-nodes_agree
decreases-nodes_agree g l = weight (node_value l.v.now)

abbrev pub decreases-lists_agree : goal.decreases-lists_agree
decreases-lists_agree g l = weight_of l.vs.now

-- what is left decides
abbrev pub invariant-lists_agree-loop-i : goal.invariant-lists_agree-loop-i
invariant-lists_agree-loop-i g l = record {
  alike : value_count l.vs ≡ value_count l.ws;
  rest : same_each_by (g.F.Labels.labelling l.f) (g.G.Labels.labelling l.g) (after l.i l.vs) (after l.i l.ws)
      ≡ same_each_by (g.F.Labels.labelling l.f) (g.G.Labels.labelling l.g) l.vs l.ws;
}
