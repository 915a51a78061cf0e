use Rattle.std.proofs.Common.{sym, subst}
use Rattle.conformance.specs.OtherNames.{other_names}
use Rattle.conformance.specs.Conforming.{PopulationConforms}
use Rattle.conformance.specs.SchemaMeanings.{Said}
use Rattle.step_exchange.specs.Exchanges.{structure}
use Rattle.schema_names.specs.Schemas.{the_schema}
use Rattle.typed_populations.specs.PopulationViews.{population_seen}
use Rattle.population_reader.specs.Verdicts.{IsVerdict}
use Rattle.file_findings.specs.Findings.{AreRuleFindings}
use Rattle.file_findings.specs.steps.Ruling.{AreReady}
use Rattle.file_findings.proofs.ByVerdict.{found-by-rules, found-one-by-one}
use Rattle.file_findings.proofs.findings.found_by_population.Goals as goal

pub found_by_rules-requires : goal.found_by_rules-requires
found_by_rules-requires c =
    let graph = c.args.graph.now in
    let verdict = subst (IsVerdict graph.types c.args.exchange.now) c.in-Typed.is c.in_ok-population.ensures in
    record {
      ready = subst (λ t. AreReady t graph.rules graph.domain c.args.tables.now c.args.settings.now)
          (sym verdict.0) c.requires.ready;
    }

pub returns-in_ok-found_by_rules-in-Typed : goal.returns-in_ok-found_by_rules-in-Typed
returns-in_ok-found_by_rules-in-Typed c =
    let graph = c.args.graph.now in
    let s = the_schema graph.types.names in
    let p = c.in-Typed.population in
    let r = c.in_ok-found_by_rules-in-Typed.field-0 in
    let (types, exchange, typed) = subst (IsVerdict graph.types c.args.exchange.now) c.in-Typed.is c.in_ok-population.ensures in
    found-by-rules s (other_names graph.types.names.schema.now) (structure c.args.exchange.now) c.schema_is_said.ensures
    c.no_findings_exactly_where_it_conforms.ensures (population_seen p) _ r.findings.items r.unknown typed
    c.new.ensures.items
    (subst (λ t. (said : Said (the_schema t.names))
    → PopulationConforms (the_schema t.names) said.domain said.entities (population_seen p)
    → AreRuleFindings (the_schema t.names) said (population_seen p) r.findings.items r.unknown) types
    c.in_ok-found_by_rules-in-Typed.ensures)

pub returns-in-Faulty : goal.returns-in-Faulty
returns-in-Faulty c =
    let graph = c.args.graph.now in
    found-one-by-one (the_schema graph.types.names) (other_names graph.types.names.schema.now)
    (structure c.args.exchange.now) c.schema_is_said.ensures
    c.in-Faulty.findings.items _ _ (subst (IsVerdict graph.types c.args.exchange.now) c.in-Faulty.is c.in_ok-population.ensures)
    c.empty_report.ensures.findings c.empty_report.ensures.unknown
