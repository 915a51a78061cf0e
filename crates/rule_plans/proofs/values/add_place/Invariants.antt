use Rattle.std.proofs.Common.{take}
use Rattle.step_values.specs.steps.Slots.{nth}
use Rattle.schema_underlying_types.specs.BaseEntries.{entry}
use Rattle.population_forms.specs.steps.Slots.{uses_by}
use Rattle.rule_plans.specs.steps.Coded.{coded_uses}
use Rattle.rule_plans.specs.steps.Seeking.{Adds}
use Rattle.rule_plans.proofs.values.add_place.Given as goal

abbrev pub invariant-loop-i : goal.invariant-loop-i
invariant-loop-i l =
    Adds (coded_uses l.seeker (entry l.asked.declared.now l.place) (nth l.values l.position)
    (uses_by l.asked.uses.now (take l.i l.asked.types.now) l.place)) l.fn.found l.found
