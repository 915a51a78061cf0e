use Rattle.std.proofs.Common.{subst}
use Rattle.step_exchange.specs.Exchanges.{structure}
use Rattle.conformance.specs.OtherNames.{other_names}
use Rattle.schema_names.specs.Schemas.{the_schema}
use Rattle.typed_populations.specs.PopulationViews.{population_seen}
use Rattle.file_findings.specs.steps.ComputedRuling.{IsRuled}
use Rattle.file_findings.proofs.Conforming.{faulty-by-rules, clean-by-rules}
use Rattle.file_findings.proofs.checked_file.checked_by_population.Goals as goal

pub returns-in-Broken : goal.returns-in-Broken
returns-in-Broken c =
    let p = c.args.population in
    let s = the_schema p.types.now.names in
    let is = population_seen p in
    let t = c.args.graph.now.rules in
    let chosen = c.args.chosen.now in
    faulty-by-rules s c.requires.said c.no_findings_exactly_where_it_conforms.ensures is
    (other_names p.types.now.names.schema.now) (structure p.exchange.now)
    c.requires.typed t chosen (record { findings = c.new.result; rules = c.in-Broken.rules })
    (subst (IsRuled s is t chosen) c.in-Broken.is c.in_ok-ruled.ensures) c.new.ensures.items

pub returns : goal.returns
returns c =
    let p = c.args.population in
    let s = the_schema p.types.now.names in
    let is = population_seen p in
    let t = c.args.graph.now.rules in
    let chosen = c.args.chosen.now in
    clean-by-rules s c.requires.said c.no_findings_exactly_where_it_conforms.ensures is
    (other_names p.types.now.names.schema.now) (structure p.exchange.now) c.requires.typed t
    chosen c.requires.ready.sound.rules c.in-Kept.unknown c.in-Kept.weak c.in_ok-rows-in-Kept.rows
    (subst (IsRuled s is t chosen) c.in-Kept.is c.in_ok-ruled.ensures) c.in_ok-rows-in-Kept.ensures.rows
    c.in_ok-rows-in-Kept.ensures.population
