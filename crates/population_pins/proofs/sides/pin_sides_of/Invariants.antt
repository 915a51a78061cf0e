use Rattle.std.proofs.Common.{slice_get}
use Rattle.schema_names.specs.Schemas.{the_schema}
use Rattle.population_inverses.specs.Extents.{inverse_value_by}
use Rattle.typed_populations.specs.PopulationViews.{population_seen}
use Rattle.population_pins.proofs.Listing.{SoFar}
use Rattle.population_pins.specs.steps.Sides.{IsOnSide}
use Rattle.population_pins.proofs.sides.pin_sides_of.Given as goal

abbrev pub invariant-loop-number : goal.invariant-loop-number
invariant-loop-number l =
    SoFar (λ y n. IsOnSide l.name (inverse_value_by (the_schema l.extents.population.now.types.now.names)
    (slice_get l.extents.rules.now.inverses.items n) (population_seen l.extents.population.now) l.name) y) l.numbers
    l.number-index l.fn.pinned l.pinned
