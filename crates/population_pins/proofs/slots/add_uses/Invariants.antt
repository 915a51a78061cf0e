use Rattle.std.proofs.Common.{take}
use Rattle.schema_names.specs.Schemas.{the_schema}
use Rattle.schema_redeclarations.specs.Uses.{of_place}
use Rattle.population_pins.specs.steps.Slots.{slots_of, asked, AddsSlots}
use Rattle.population_pins.proofs.slots.add_uses.Given as goal

abbrev pub invariant-loop-i : goal.invariant-loop-i
invariant-loop-i l =
    AddsSlots (the_schema l.bases.names.now) l.fn.slots.items l.slots.items
    (λ d. slots_of d l.position (asked (the_schema l.bases.names.now) (of_place l.place (take l.i l.uses))))
