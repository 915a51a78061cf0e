use Rattle.std.proofs.Common.{sym, subst}
use Rattle.conformance.specs.Conforming.{PopulationConforms}
use Rattle.conformance.specs.SchemaMeanings.{Said}
use Rattle.schema_names.specs.Schemas.{the_schema}
use Rattle.typed_populations.specs.PopulationViews.{population_seen}
use Rattle.file_findings.specs.Findings.{AreRuleFindings}
use Rattle.file_findings.specs.steps.Ruling.{AreReady}
use Rattle.file_findings.proofs.rules.found_by_rules.Goals as goal

pub rule_findings-requires : goal.rule_findings-requires
rule_findings-requires c =
    let e = c.in_ok-extents.extents in
    let graph = c.args.graph.now in
    let tables = c.args.tables.now in
    let settings = c.args.settings.now in
    record {
      ready = subst (λ t. AreReady e.population.now.types.now t graph.domain tables settings)
          (sym c.in_ok-extents.ensures.rules)
          (subst (λ q. AreReady q.types.now graph.rules graph.domain tables settings)
          (sym c.in_ok-extents.ensures.population) c.requires.ready);
    }

pub returns : goal.returns
returns c =
    let r = c.in_ok-report.report in
    subst (λ q. (said : Said (the_schema q.types.now.names))
    → PopulationConforms (the_schema q.types.now.names) said.domain said.entities (population_seen q)
    → AreRuleFindings (the_schema q.types.now.names) said (population_seen q) r.findings.items r.unknown)
    c.in_ok-extents.ensures.population c.in_ok-report.ensures
