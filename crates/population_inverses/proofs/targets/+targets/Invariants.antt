use Rattle.std.proofs.Common.{◌≡◌, ◌++◌}
use Rattle.step_values.proofs.Walks.{after}
use Rattle.step_values.proofs.Weights.{weight, weight_of}
use Rattle.population_inverses.specs.steps.Targets.{targets_of_each}
use Rattle.population_inverses.proofs.targets.+targets.Given as goal

abbrev pub decreases-add_targets : goal.decreases-add_targets
decreases-add_targets l = weight l.value.now

abbrev pub decreases-add_targets_of_each : goal.decreases-add_targets_of_each
decreases-add_targets_of_each l = weight_of l.values.now

abbrev pub invariant-add_targets_of_each-loop-i : goal.invariant-add_targets_of_each-loop-i
invariant-add_targets_of_each-loop-i l =
    l.names.items ++ targets_of_each (after l.i l.values) ≡ l.fn.names.items ++ targets_of_each l.values
