use Rattle.std.proofs.Common.{take}
use Rattle.step_values.specs.steps.Slots.{nth}
use Rattle.schema_redeclarations.specs.Uses.{of_place}
use Rattle.rule_plans.specs.steps.Coded.{coded_uses}
use Rattle.rule_plans.specs.steps.Seeking.{Adds}
use Rattle.rule_plans.proofs.values.add_uses.Given as goal

abbrev pub invariant-loop-i : goal.invariant-loop-i
invariant-loop-i l =
    Adds (coded_uses l.seeker l.base (nth l.values l.position) (of_place l.place (take l.i l.uses))) l.fn.found l.found
