use Rattle.std.proofs.Common.{[], flat_map, take}
use Rattle.conformance.specs.RuleFindings.{breaches_of_inverse}
use Rattle.schema_names.specs.Schemas.{the_schema}
use Rattle.schema_constraints.specs.declared.finding.RuleFindingKind.TheVariants.{InverseBound}
use Rattle.schema_constraints.specs.RuleViews.{rules_seen}
use Rattle.typed_populations.specs.PopulationViews.{population_seen}
use Rattle.population_inverses.specs.steps.Findings.{Adds}
use Rattle.population_uniqueness.proofs.inverses.check_inverse.Given as goal

abbrev pub invariant-loop-row : goal.invariant-loop-row
invariant-loop-row l =
    Adds InverseBound
    (flat_map (breaches_of_inverse (rules_seen (the_schema l.extents.population.now.types.now.names) l.extents.rules.now)
    (population_seen l.extents.population.now)) (take l.row (population_seen l.extents.population.now))) [] l.findings.items
