use Rattle.std.proofs.Common.{◌≡◌, ◌∙◌, [], ℕ, cond, map, ap, sym, subst}
use Rattle.conformance.specs.Populations.{Instance}
use Rattle.conformance.specs.RuleFindings.{Breach, repeats, breaches_of_unique}
use Rattle.schema_names.specs.Schemas.{the_schema}
use Rattle.schema_constraints.specs.declared.finding.RuleFindingKind.TheVariants.{UniqueBroken}
use Rattle.schema_constraints.specs.RuleViews.{unique_seen}
use Rattle.typed_populations.specs.PopulationViews.{population_seen}
use Rattle.typed_populations.proofs.Turns.{on-ok}
use Rattle.population_inverses.specs.steps.Findings.{Adds}
use Rattle.population_inverses.proofs.Adding.{map-twice}
use Rattle.population_uniqueness.proofs.uniques.add_rule.Goals as goal

pub returns : goal.returns
returns c =
    let p = c.args.extents.now.population.now in
    let is = population_seen p in
    let u = unique_seen (the_schema p.types.now.names) c.args.rule.now in
    let make : ℕ → Breach = λ y. record { instance = y; holder = u.entity; label = u.label } in
    let all : map make c.deref.result.now ≡ breaches_of_unique is u =
    ap (map make) (c.deref.ensures.value ∙ c.in_ok-names.ensures)
    ∙ map-twice make (λ (x : Instance). x.name) (repeats u [] is)
    ∙ sym (ap (λ b. cond b (map (λ (x : Instance). make x.name) (repeats u [] is)) []) c.if-not-rule.false) in
    on-ok c.add_findings.result
    (λ a. subst (λ bs. Adds UniqueBroken bs c.args.findings.now.items c.add_findings.new.findings.items) all a)
    (c.add_findings.ensures u.entity u.label c.label.ensures)
