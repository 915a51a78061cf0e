use Rattle.std.proofs.Common.{drop, map}
use Rattle.schema_semantics.specs.Names.{OneOf}
use Rattle.conformance.specs.Bases.{Domain, IsDomain}
use Rattle.schema_names.specs.Schemas.{the_schema}
use Rattle.population_pins.specs.steps.Gathering.{GathersUpTo}
use Rattle.population_pins.specs.steps.Elements.{Asks}
use Rattle.population_pins.specs.steps.Slots.{slot_seen, HasUniqueAt}
use Rattle.population_pins.proofs.unique_elements.gather_in_slots.Given as goal

abbrev pub invariant-loop-i : goal.invariant-loop-i
invariant-loop-i l = (d : Domain) → IsDomain (the_schema l.bases.names.now) d
    → GathersUpTo (λ q. OneOf (HasUniqueAt (the_schema l.bases.names.now) d (Asks q) l.values)
    (map (slot_seen (the_schema l.bases.names.now)) l.slots))
    (λ q. OneOf (HasUniqueAt (the_schema l.bases.names.now) d (Asks q) l.values)
    (drop l.i (map (slot_seen (the_schema l.bases.names.now)) l.slots))) l.fn.weak l.weak
