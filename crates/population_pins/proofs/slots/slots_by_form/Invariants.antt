use Rattle.std.proofs.Common.{take}
use Rattle.std.specs.List.{AllZip}
use Rattle.schema_names.specs.Schemas.{the_schema}
use Rattle.population_pins.specs.steps.Slots.{IsRowOf}
use Rattle.population_pins.proofs.slots.slots_by_form.Given as goal

abbrev pub invariant-loop-i : goal.invariant-loop-i
invariant-loop-i l = AllZip (IsRowOf (the_schema l.bases.names.now) l.uses) (take l.i l.forms) l.rows.items
