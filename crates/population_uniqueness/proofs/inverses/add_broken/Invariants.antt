use Rattle.std.proofs.Common.{take}
use Rattle.schema_names.specs.Schemas.{the_schema}
use Rattle.schema_constraints.specs.declared.finding.RuleFindingKind.TheVariants.{InverseBound}
use Rattle.typed_populations.specs.PopulationViews.{population_seen}
use Rattle.population_inverses.specs.steps.Findings.{Adds}
use Rattle.population_uniqueness.specs.steps.Bounds.{breaches_at}
use Rattle.population_uniqueness.proofs.inverses.add_broken.Given as goal

abbrev pub invariant-loop-number : goal.invariant-loop-number
invariant-loop-number l =
    Adds InverseBound
    (breaches_at (the_schema l.extents.population.now.types.now.names) (population_seen l.extents.population.now)
    l.name l.extents.rules.now.inverses.items (take l.number-index l.numbers)) l.fn.findings.items l.findings.items
