use Rattle.std.proofs.Common.{sym, subst}
use Rattle.schema_names.specs.Schemas.{the_schema}
use Rattle.typed_populations.specs.PopulationViews.{population_seen}
use Rattle.file_findings.specs.steps.Ruling.{AreReady}
use Rattle.file_findings.specs.steps.ComputedRuling.{IsRuled}
use Rattle.file_findings.proofs.rule_pins.ruled_by_population.Goals as goal

pub ruled_by_extents-requires : goal.ruled_by_extents-requires
ruled_by_extents-requires c =
    let e = c.in_ok-extents.extents in
    let graph = c.args.graph.now in
    let tables = c.args.tables.now in
    let settings = c.args.settings.now in
    record {
      ready = subst (λ t. AreReady e.population.now.types.now t graph.domain tables settings)
          (sym c.in_ok-extents.ensures.rules)
          (subst (λ q. AreReady q.types.now graph.rules graph.domain tables settings)
          (sym c.in_ok-extents.ensures.population) c.requires.ready);
    }

pub returns : goal.returns
returns c =
    let e = c.in_ok-extents.extents in
    let chosen = c.args.chosen.now in
    let ruled = c.in_ok-ruled.ruled in
    subst (λ q. IsRuled (the_schema q.types.now.names) (population_seen q) c.args.graph.now.rules chosen ruled)
    c.in_ok-extents.ensures.population
    (subst (λ t. IsRuled (the_schema e.population.now.types.now.names) (population_seen e.population.now) t chosen ruled)
    c.in_ok-extents.ensures.rules c.in_ok-ruled.ensures)
