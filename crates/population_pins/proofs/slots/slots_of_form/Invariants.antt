use Rattle.schema_names.specs.Schemas.{the_schema}
use Rattle.population_pins.specs.steps.Slots.{IsRowUpTo}
use Rattle.population_pins.proofs.slots.slots_of_form.Given as goal

abbrev pub invariant-loop-i : goal.invariant-loop-i
invariant-loop-i l = IsRowUpTo (the_schema l.bases.names.now) l.uses l.form l.slots.items l.i
