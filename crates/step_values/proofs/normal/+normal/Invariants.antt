use Rattle.std.proofs.Common.{suc}
use Rattle.step_values.specs.LabelledValues.{placed}
use Rattle.step_values.specs.steps.Slots.{node_value}
use Rattle.step_values.proofs.Walks.{Collects}
use Rattle.step_values.proofs.Weights.{weight, weight_of}
use Rattle.step_values.proofs.normal.+normal.Given as goal

abbrev pub decreases-form : goal.decreases-form
decreases-form g l = suc (weight l.value.now)

abbrev pub decreases-node_form : goal.decreases-node_form
decreases-node_form g l = weight (node_value l.node.now)

abbrev pub decreases-forms : goal.decreases-forms
decreases-forms g l = weight_of l.values.now

abbrev pub decreases-members : goal.decreases-members
decreases-members g l = suc (weight_of l.values.now)

abbrev pub invariant-forms-loop-i : goal.invariant-forms-loop-i
invariant-forms-loop-i g l = Collects (placed l.in_bag (g.F.Labels.labelling l.f)) l.values l.i l.forms.items
