use Rattle.std.proofs.Common.{[], map, flat_map, take}
use Rattle.conformance.specs.RuleFindings.{breaches_of_unique}
use Rattle.schema_names.specs.Schemas.{the_schema}
use Rattle.schema_constraints.specs.declared.finding.RuleFindingKind.TheVariants.{UniqueBroken}
use Rattle.schema_constraints.specs.RuleViews.{unique_seen}
use Rattle.typed_populations.specs.PopulationViews.{population_seen}
use Rattle.population_inverses.specs.steps.Findings.{Adds}
use Rattle.population_uniqueness.proofs.uniques.check_unique.Given as goal

abbrev pub invariant-loop-rule : goal.invariant-loop-rule
invariant-loop-rule l =
    Adds UniqueBroken
    (flat_map (breaches_of_unique (population_seen l.extents.population.now))
    (map (unique_seen (the_schema l.extents.population.now.types.now.names))
    (take l.rule-index l.extents.rules.now.uniques.items))) [] l.findings.items
