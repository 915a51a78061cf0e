use Rattle.std.proofs.Common.{take}
use Rattle.schema_names.specs.Schemas.{the_schema}
use Rattle.typed_populations.specs.PopulationViews.{population_seen}
use Rattle.population_inverses.specs.InverseReferences.{AreHeld}
use Rattle.population_inverses.proofs.inverse_references.gathered.Given as goal

abbrev pub invariant-loop-row : goal.invariant-loop-row
invariant-loop-row l =
    AreHeld (the_schema l.population.types.now.names) l.inverse (take l.row (population_seen l.population))
    l.references.items
