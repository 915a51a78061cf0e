use Rattle.std.proofs.Common.{suc}
use Rattle.step_values.specs.steps.Slots.{node_value}
use Rattle.step_values.proofs.Weights.{weight}
use Rattle.rule_values.proofs.scalars.+scalars.Given as goal

abbrev pub decreases-value_scalar : goal.decreases-value_scalar
decreases-value_scalar l = suc (weight l.value.now)

abbrev pub decreases-node_scalar : goal.decreases-node_scalar
decreases-node_scalar l = weight (node_value l.node.now)
