use Rattle.std.proofs.Common.{◌≡◌, flat_map, take}
use Rattle.schema_redeclarations.specs.Uses.{uses_at}
use Rattle.population_forms.proofs.slots.all_uses.Given as goal

abbrev pub invariant-loop-entity : goal.invariant-loop-entity
invariant-loop-entity l = l.found.items ≡ flat_map (uses_at l.uses) (take l.entity-index l.types)
