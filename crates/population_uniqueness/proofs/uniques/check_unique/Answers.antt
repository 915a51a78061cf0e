use Rattle.std.proofs.Common.{◌≡◌, ◌∙◌, [], map, take, flat_map, slice_get, Some, ap, sym, subst}
use Rattle.std.proofs.lemmas.Option.{slice_get-get_or}
use Rattle.conformance.specs.RuleFindings.{breaches_of_unique}
use Rattle.schema_names.specs.Schemas.{the_schema}
use Rattle.schema_constraints.specs.declared.finding.RuleFindingKind.TheVariants.{UniqueBroken}
use Rattle.schema_constraints.specs.RuleViews.{unique_seen}
use Rattle.typed_populations.specs.PopulationViews.{population_seen}
use Rattle.population_inverses.specs.steps.Findings.{Adds}
use Rattle.population_inverses.proofs.Adding.{adds-more, flat-mapped}
use Rattle.population_uniqueness.proofs.uniques.check_unique.Goals as goal

pub loop-rule-preserved : goal.loop-rule-preserved
loop-rule-preserved c =
    let p = c.args.extents.now.population.now in
    let f = breaches_of_unique (population_seen p) in
    let g = unique_seen (the_schema p.types.now.names) in
    let us = c.args.extents.now.rules.now.uniques.items in
    let k = c.loop-rule.rule-index in
    let u = c.rule-item.result in
    let at : slice_get us k ≡ Some u =
    ap (λ l. slice_get l k) (sym c.deref-rule-items.ensures.value)
    ∙ slice_get-get_or c.deref-rule-items.result.now k u c.loop-rule-test.true ∙ ap Some (sym c.rule-item.is) in
    subst (λ bs. Adds UniqueBroken bs [] c.add_rule.new.findings.items) (sym (flat-mapped f g us k u at))
    (adds-more UniqueBroken (flat_map f (map g (take k us))) (f (g u)) [] c.loop-rule.findings.items _
    c.loop-rule.invariant c.in_ok-add_rule.ensures)
