use Rattle.std.proofs.Common.{suc}
use Rattle.step_values.specs.steps.Slots.{node_value}
use Rattle.step_values.proofs.Weights.{weight}
use Rattle.rule_values.proofs.values.+inside.Given as goal

abbrev pub decreases-bare_value : goal.decreases-bare_value
decreases-bare_value l = suc (weight l.value.now)

abbrev pub decreases-bare_node : goal.decreases-bare_node
decreases-bare_node l = weight (node_value l.node)
