use Rattle.std.proofs.Common.{take}
use Rattle.std.specs.List.{AllZip}
use Rattle.population_forms.specs.steps.Slots.{IsSlotAt}
use Rattle.population_forms.proofs.slots.slots_in_turn.Given as goal

abbrev pub invariant-loop-place : goal.invariant-loop-place
invariant-loop-place l = AllZip (IsSlotAt l.uses l.types) (take l.place-index l.places) l.found.items
