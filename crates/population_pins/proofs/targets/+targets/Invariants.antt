use Rattle.conformance.specs.SeparatingMaps.{OccursIn}
use Rattle.step_values.proofs.Walks.{after}
use Rattle.step_values.proofs.Weights.{weight, weight_of}
use Rattle.population_pins.specs.steps.Pinning.{PinsUpTo}
use Rattle.population_pins.proofs.targets.+targets.Given as goal

abbrev pub decreases-pin_targets : goal.decreases-pin_targets
decreases-pin_targets l = weight l.value.now

abbrev pub decreases-pin_each_target : goal.decreases-pin_each_target
decreases-pin_each_target l = weight_of l.values.now

abbrev pub invariant-pin_each_target-loop-i : goal.invariant-pin_each_target-loop-i
invariant-pin_each_target-loop-i l =
    PinsUpTo (λ y. OccursIn y l.values) (λ y. OccursIn y (after l.i l.values)) l.fn.pinned l.pinned
