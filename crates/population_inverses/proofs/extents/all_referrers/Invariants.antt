use Rattle.std.proofs.Common.{take}
use Rattle.schema_names.specs.Schemas.{the_schema}
use Rattle.typed_populations.specs.PopulationViews.{population_seen}
use Rattle.population_inverses.specs.Extents.{AllHeld}
use Rattle.population_inverses.proofs.extents.all_referrers.Given as goal

abbrev pub invariant-loop-inverse : goal.invariant-loop-inverse
invariant-loop-inverse l =
    AllHeld (the_schema l.population.types.now.names) (population_seen l.population)
    (take l.inverse-index l.inverses) l.all.items
