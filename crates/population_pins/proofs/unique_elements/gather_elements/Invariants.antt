use Rattle.std.proofs.Common.{drop}
use Rattle.schema_semantics.specs.Names.{OneOf}
use Rattle.conformance.specs.Bases.{Domain, IsDomain}
use Rattle.conformance.specs.Entities.{Entities, AreEntities}
use Rattle.conformance.specs.Elements.{HasUniqueValue}
use Rattle.schema_names.specs.Schemas.{the_schema}
use Rattle.typed_populations.specs.PopulationViews.{population_seen}
use Rattle.population_pins.specs.steps.Gathering.{GathersUpTo}
use Rattle.population_pins.specs.steps.Elements.{Asks}
use Rattle.population_pins.proofs.unique_elements.gather_elements.Given as goal

abbrev pub invariant-loop-row : goal.invariant-loop-row
invariant-loop-row l = (d : Domain) (en : Entities) → IsDomain (the_schema l.population.types.now.names) d
    → AreEntities (the_schema l.population.types.now.names) en
    → GathersUpTo
    (λ q. OneOf (HasUniqueValue (the_schema l.population.types.now.names) d en (Asks q)) (population_seen l.population))
    (λ q. OneOf (HasUniqueValue (the_schema l.population.types.now.names) d en (Asks q))
    (drop l.row (population_seen l.population))) l.fn.weak l.weak
