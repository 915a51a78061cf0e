use Rattle.std.proofs.Common.{map, take}
use Rattle.std.specs.Prelude.{flat_map}
use Rattle.conformance.specs.Entities.{own_places_of}
use Rattle.step_values.specs.Views.{word_of}
use Rattle.schema_names.specs.Schemas.{the_schema}
use Rattle.typed_populations.specs.ValueOrder.{StandAt}
use Rattle.typed_populations.proofs.value_order.positions_of.Given as goal

abbrev pub invariant-loop-name : goal.invariant-loop-name
invariant-loop-name l =
    StandAt (the_schema l.names) l.slots
    (flat_map (own_places_of (the_schema l.names)) (map word_of (take l.name-index l.types)))
    l.positions.items
