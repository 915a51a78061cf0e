use Rattle.std.proofs.Common.{◌≡◌, map, take}
use Rattle.population_rows.specs.declared.form.SlotForm.{SlotForm}
use Rattle.population_rows.proofs.positions.places_of.Given as goal

abbrev pub invariant-loop-slot : goal.invariant-loop-slot
invariant-loop-slot l = l.places.items ≡ map (λ (x : SlotForm). x.place) (take l.slot-index l.slots)
