use Rattle.std.proofs.Common.{ℕ, ◌∷◌, [], ◌∙◌, map, take, ap, sym, subst, refl, slice_index_or}
use Rattle.std.proofs.lemmas.Option.{slice_get-get_or}
use Rattle.schema_constraints.specs.declared.finding.RuleFindingKind.TheVariants.{UniqueBroken}
use Rattle.conformance.specs.RuleFindings.{Breach}
use Rattle.schema_names.proofs.Rows.{map-joined}
use Rattle.population_inverses.specs.steps.Findings.{Adds}
use Rattle.population_inverses.proofs.Adding.{adds-one, adds-more}
use Rattle.population_inverses.proofs.Held.{take-next}
use Rattle.population_uniqueness.proofs.uniques.add_findings.Goals as goal

pub loop-name-preserved : goal.loop-name-preserved
loop-name-preserved c holder label h =
    let make : ℕ → Breach = λ y. record { instance = y; holder = holder; label = label } in
    let names = c.args.names.now in
    let k = c.loop-name.name-index in
    let y = slice_index_or names k 0 in
    subst (λ bs. Adds UniqueBroken bs c.args.findings.now.items c.push.new.self.items)
    (sym (ap (map make) (take-next names k y (slice_get-get_or names k 0 c.loop-name-test.true))
    ∙ map-joined make (take k names) (y ∷ [])))
    (adds-more UniqueBroken (map make (take k names)) (make y ∷ []) _ c.loop-name.findings.items _
    (c.loop-name.invariant holder label h)
    (adds-one UniqueBroken (make y) _ _ _ (record { kind = refl; instance = refl; rule = h }) c.in_ok-push.ensures.items))
