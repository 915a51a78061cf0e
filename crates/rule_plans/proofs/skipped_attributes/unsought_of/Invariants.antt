use Rattle.std.proofs.Common.{◌≡◌, map, take}
use Rattle.population_rows.specs.declared.form.SlotForm.{SlotForm}
use Rattle.rule_plans.specs.steps.Unsought.{is_unsought_place}
use Rattle.rule_plans.proofs.skipped_attributes.unsought_of.Given as goal

abbrev pub invariant-loop-slot : goal.invariant-loop-slot
invariant-loop-slot l =
    l.table.items
    ≡ map (λ (y : SlotForm). is_unsought_place l.seeker l.uses l.form.types.items y.place) (take l.slot-index l.form.slots.items)
