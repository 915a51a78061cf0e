use Rattle.std.proofs.Common.{◌∙◌, ◌++◌, ap, refl}
use Rattle.schema_names.specs.Schemas.{the_schema}
use Rattle.typed_populations.specs.PopulationViews.{population_seen}
use Rattle.schema_constraints.specs.RuleViews.{rules_seen}
use Rattle.file_findings.proofs.Ruled.{ruled}
use Rattle.file_findings.proofs.rules.rule_findings.Goals as goal

pub returns : goal.returns
returns c said conforms =
    let e = c.args.extents.now in
    let s = the_schema e.population.now.types.now.names in
    ruled s said (rules_seen s e.rules.now) (c.requires.ready.sound.rules.rules said.domain said.is_domain)
    (population_seen e.population.now) c.in_ok-report.report _ c.in_ok-uniques.uniques.items c.in_ok-bounds.bounds.items _
    (c.in_ok-report.ensures said conforms) c.in_ok-uniques.ensures c.in_ok-bounds.ensures
    (c.in_ok-append-2.ensures.items ∙ ap (λ l. l ++ c.in_ok-bounds.bounds.items) c.in_ok-append.ensures.items) refl
