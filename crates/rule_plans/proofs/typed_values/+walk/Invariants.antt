use Rattle.std.proofs.Common.{suc}
use Rattle.step_values.specs.steps.Slots.{node_value}
use Rattle.step_values.proofs.Walks.{after}
use Rattle.step_values.proofs.Weights.{weight, weight_of}
use Rattle.rule_plans.specs.steps.Coded.{coded_each}
use Rattle.rule_plans.proofs.Adding.{AddsUpTo}
use Rattle.rule_plans.proofs.typed_values.+walk.Given as goal

abbrev pub decreases-add_values : goal.decreases-add_values
decreases-add_values a = suc (weight a.value)

abbrev pub decreases-add_inside : goal.decreases-add_inside
decreases-add_inside a = weight (node_value a.node)

abbrev pub decreases-add_elements : goal.decreases-add_elements
decreases-add_elements a = suc (weight_of a.values.now)

abbrev pub decreases-add_each : goal.decreases-add_each
decreases-add_each a = weight_of a.values.now

abbrev pub invariant-add_each-loop-i : goal.invariant-add_each-loop-i
invariant-add_each-loop-i l =
    AddsUpTo (coded_each l.seeker l.sought l.base l.values) (coded_each l.seeker l.sought l.base (after l.i l.values))
    l.fn.found l.found
