use Rattle.std.proofs.Common.{map}
use Rattle.schema_semantics.specs.Names.{OneOf}
use Rattle.schema_names.specs.Schemas.{the_schema}
use Rattle.schema_constraints.specs.RuleViews.{rules_seen}
use Rattle.typed_populations.specs.PopulationViews.{population_seen}
use Rattle.population_pins.proofs.Listing.{SoFar}
use Rattle.population_pins.proofs.Sided.{IsSideOf}
use Rattle.population_pins.proofs.sides.pin_sides.Given as goal

abbrev pub invariant-loop-row : goal.invariant-loop-row
invariant-loop-row l =
    SoFar (λ y x. OneOf (IsSideOf (population_seen l.extents.population.now) y x)
    (rules_seen (the_schema l.extents.population.now.types.now.names) l.extents.rules.now).inverses)
    (population_seen l.extents.population.now) l.row l.fn.pinned l.pinned
