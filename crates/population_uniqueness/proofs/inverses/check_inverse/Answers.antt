use Rattle.std.proofs.Common.{◌≡◌, ◌∙◌, [], ◌++◌, ◌<◌, length, map, take, flat_map, ap, sym, subst}
use Rattle.express_syntax.specs.Profile.{Every}
use Rattle.conformance.specs.RuleFindings.{breaches_of_inverse}
use Rattle.schema_names.specs.Schemas.{the_schema}
use Rattle.schema_constraints.specs.declared.finding.RuleFindingKind.TheVariants.{InverseBound}
use Rattle.schema_constraints.specs.RuleViews.{rules_seen}
use Rattle.typed_populations.specs.Rows.{instance_seen}
use Rattle.typed_populations.specs.PopulationViews.{population_seen}
use Rattle.typed_populations.specs.PopulationTables.{form_among}
use Rattle.typed_populations.proofs.Found.{kept}
use Rattle.population_inverses.specs.steps.Findings.{Adds}
use Rattle.population_inverses.specs.steps.Inverses.{numbers_by, row_by}
use Rattle.population_uniqueness.specs.steps.Bounds.{breaches_at}
use Rattle.population_inverses.proofs.Adding.{adds-more}
use Rattle.population_uniqueness.proofs.Broken.{told-of, breaches-are, row-within}
use Rattle.population_inverses.proofs.Held.{flat-next}
use Rattle.population_uniqueness.proofs.inverses.check_inverse.Goals as goal

pub add_broken-requires-clause-within : goal.add_broken-requires-clause-within
add_broken-requires-clause-within c =
    let all = c.args.extents.now.rules.now.inverses.items in
    let forms = c.args.extents.now.population.now.rows.forms.items in
    let form = c.instance-instance.result.form in
    let row : c.row_at-numbers.result.now ≡ row_by (map (numbers_by all 0) forms) form =
    c.row_at-numbers.ensures
    ∙ ap (λ rs. row_by (map (λ v. v.items) rs) form) c.deref-in-loop-row.ensures.value
    ∙ ap (λ rs. row_by rs form) (c.in_ok-rows.ensures
    ∙ ap (λ l. map (numbers_by l 0) c.forms.result.now) c.deref.ensures.value
    ∙ ap (map (numbers_by all 0)) c.forms.ensures.forms) in
    subst (Every (λ n. n < length all)) (sym row) (row-within all forms form)

pub loop-row-preserved : goal.loop-row-preserved
loop-row-preserved c =
    let p = c.args.extents.now.population.now in
    let s = the_schema p.types.now.names in
    let is = population_seen p in
    let t = c.args.extents.now.rules.now in
    let all = t.inverses.items in
    let forms = p.rows.forms.items in
    let x = c.instance-instance.result in
    let section = c.instance-instance.ensures.section in
    let o = form_among forms x.form in
    let f = breaches_of_inverse (rules_seen s t) is in
    let row : c.row_at-numbers.result.now ≡ row_by (map (numbers_by all 0) forms) x.form =
    c.row_at-numbers.ensures
    ∙ ap (λ rs. row_by (map (λ v. v.items) rs) x.form) c.deref-in-loop-row.ensures.value
    ∙ ap (λ rs. row_by rs x.form) (c.in_ok-rows.ensures
    ∙ ap (λ l. map (numbers_by l 0) c.forms.result.now) c.deref.ensures.value
    ∙ ap (map (numbers_by all 0)) c.forms.ensures.forms) in
    let told : breaches_at s is x.name all c.row_at-numbers.result.now ≡ f (instance_seen s x.name section o x.values) =
    ap (breaches_at s is x.name all) row
    ∙ told-of s is x.name section x.values all c.requires.numbered.inverses forms x.form (kept p).numbered
    ∙ sym (breaches-are s is x.name section x.values t o) in
    subst (λ bs. Adds InverseBound bs [] c.add_broken.new.findings.items)
    (ap (λ l. flat_map f (take c.loop-row.row is) ++ l) told
    ∙ sym (flat-next f is c.loop-row.row (instance_seen s x.name section o x.values) c.instance-instance.ensures.seen))
    (adds-more InverseBound (flat_map f (take c.loop-row.row is)) _ [] c.loop-row.findings.items _ c.loop-row.invariant
    c.in_ok-add_broken.ensures)
