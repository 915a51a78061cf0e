use Rattle.schema_names.specs.Schemas.{the_schema}
use Rattle.schema_constraints.specs.RuleViews.{unique_seen}
use Rattle.typed_populations.specs.PopulationViews.{population_seen}
use Rattle.population_uniqueness.proofs.Telling.{TellsUpTo}
use Rattle.population_uniqueness.proofs.repeats.repeats.Given as goal

abbrev pub invariant-loop-row : goal.invariant-loop-row
invariant-loop-row l =
    TellsUpTo (unique_seen (the_schema l.population.types.now.names) l.rule) (population_seen l.population) l.row
    l.names.items l.met
