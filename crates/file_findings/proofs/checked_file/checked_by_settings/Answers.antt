use Rattle.std.proofs.Common.{IfOk, sym, subst}
use Rattle.conformance.specs.SchemaMeanings.{Said}
use Rattle.step_exchange.specs.Exchanges.{structure}
use Rattle.conformance.specs.OtherNames.{other_names}
use Rattle.schema_names.specs.Schemas.{the_schema}
use Rattle.typed_populations.specs.PopulationViews.{population_seen}
use Rattle.typed_populations.specs.TypedPopulations.{IsTyped}
use Rattle.population_reader.specs.Verdicts.{IsVerdict}
use Rattle.file_findings.specs.steps.Ruling.{AreReady}
use Rattle.file_findings.specs.steps.Checking.{ChecksFile}
use Rattle.file_findings.proofs.Conforming.{faulty-one-by-one}
use Rattle.file_findings.proofs.checked_file.checked_by_settings.Goals as goal

pub checked_by_population-requires-clause-said : goal.checked_by_population-requires-clause-said
checked_by_population-requires-clause-said c =
    let verdict = subst (IsVerdict c.args.graph.now.types c.args.exchange.now) c.in-Typed.is c.in_ok-verdict.ensures in
    subst (λ t. Said (the_schema t.names)) (sym verdict.0) c.schema_is_said.ensures

pub checked_by_population-requires-clause-ready : goal.checked_by_population-requires-clause-ready
checked_by_population-requires-clause-ready c =
    let graph = c.args.graph.now in
    let verdict = subst (IsVerdict graph.types c.args.exchange.now) c.in-Typed.is c.in_ok-verdict.ensures in
    subst (λ t. AreReady t graph.rules graph.domain c.args.tables.now c.args.settings.now)
    (sym verdict.0) c.requires.ready

pub checked_by_population-requires-clause-typed : goal.checked_by_population-requires-clause-typed
checked_by_population-requires-clause-typed c =
    let p = c.in-Typed.population in
    let types = c.args.graph.now.types in
    let verdict = subst (IsVerdict types c.args.exchange.now) c.in-Typed.is c.in_ok-verdict.ensures in
    subst (λ t. IsTyped (the_schema t.names) (other_names t.names.schema.now) (structure p.exchange.now) (population_seen p)) (sym verdict.0)
    (subst (λ x. IsTyped (the_schema types.names) (other_names types.names.schema.now) (structure x) (population_seen p)) (sym verdict.1) verdict.2)

pub returns-in-Typed : goal.returns-in-Typed
returns-in-Typed c =
    let p = c.in-Typed.population in
    let types = c.args.graph.now.types in
    let chosen = c.args.chosen.now in
    let r = c.checked_by_population.result in
    let verdict = subst (IsVerdict types c.args.exchange.now) c.in-Typed.is c.in_ok-verdict.ensures in
    subst (λ x. IfOk r (ChecksFile (the_schema types.names) (other_names types.names.schema.now) (structure x) chosen)) verdict.1
    (subst (λ t. IfOk r (ChecksFile (the_schema t.names) (other_names t.names.schema.now) (structure p.exchange.now) chosen)) verdict.0
    c.checked_by_population.ensures)

pub returns-in-Faulty : goal.returns-in-Faulty
returns-in-Faulty c =
    let types = c.args.graph.now.types in
    let x = c.args.exchange.now in
    faulty-one-by-one (the_schema types.names) (other_names types.names.schema.now) (structure x) c.schema_is_said.ensures c.args.chosen.now
    (record { findings = c.in-Faulty.findings; rules = c.empty_report.result })
    (subst (IsVerdict types x) c.in-Faulty.is c.in_ok-verdict.ensures) c.empty_report.ensures.findings
    c.empty_report.ensures.unknown
