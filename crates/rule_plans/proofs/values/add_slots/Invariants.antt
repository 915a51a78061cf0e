use Rattle.std.proofs.Common.{drop}
use Rattle.step_values.proofs.Walks.{after}
use Rattle.rule_plans.specs.steps.Coded.{coded_slots}
use Rattle.rule_plans.proofs.Adding.{AddsUpTo}
use Rattle.rule_plans.proofs.values.add_slots.Given as goal

abbrev pub invariant-loop-i : goal.invariant-loop-i
invariant-loop-i l =
    AddsUpTo (coded_slots l.seeker l.asked l.slots l.values)
    (coded_slots l.seeker l.asked (drop l.i l.slots) (after l.i l.values)) l.fn.found l.found
