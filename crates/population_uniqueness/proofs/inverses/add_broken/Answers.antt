use Rattle.std.proofs.Common.{◌≡◌, ◌∙◌, ◌∷◌, [], ◌++◌, ◌+◌, ◌<◌, not, cond, length, take, slice_get, slice_index_or, Some, ap, sym, subst}
use Rattle.std.proofs.lemmas.Option.{slice_get-get_or}
use Rattle.schema_names.specs.Schemas.{the_schema}
use Rattle.schema_constraints.specs.declared.finding.RuleFindingKind.TheVariants.{InverseBound}
use Rattle.typed_populations.specs.PopulationViews.{population_seen}
use Rattle.typed_populations.proofs.Found.{every-at}
use Rattle.typed_populations.proofs.Turns.{got}
use Rattle.population_inverses.specs.steps.Findings.{Adds}
use Rattle.population_uniqueness.specs.steps.Bounds.{breach, breach_in, breaches_at}
use Rattle.population_inverses.proofs.Adding.{adds-none, adds-one, adds-more}
use Rattle.population_inverses.proofs.Held.{flat-next}
use Rattle.population_uniqueness.proofs.inverses.add_broken.Goals as goal
use Rattle.population_uniqueness.proofs.inverses.add_broken.Goals.{then-not-keeps+in_ok-push, else-not-keeps}

pub loop-number-preserved : goal.loop-number-preserved
loop-number-preserved c =
    let p = c.args.extents.now.population.now in
    let s = the_schema p.types.now.names in
    let is = population_seen p in
    let y = c.args.name in
    let all = c.args.extents.now.rules.now.inverses.items in
    let numbers = c.args.numbers.now in
    let k = c.loop-number.number-index in
    let n = slice_index_or numbers k 0 in
    let at-k : slice_get numbers k ≡ Some n = slice_get-get_or numbers k 0 c.loop-number-test.true in
    let there = got all n (every-at (λ m. m < length all) numbers k n c.requires.within at-k) in
    let b = breach s y there.0 in
    let xs = breaches_at s is y all (take k numbers) in
    let old = c.args.findings.now.items in
    let mid = c.loop-number.findings.items in
    let told : breach_in s is y (slice_get all n) ≡ cond (not c.keeps.result) (b ∷ []) [] =
    ap (breach_in s is y) there.1 ∙ ap (λ t. cond (not t) (b ∷ []) []) (sym (c.keeps.ensures there.0 there.1)) in
    let next = flat-next (λ m. breach_in s is y (slice_get all m)) numbers k n at-k in
    elim c.if-not-keeps.branch [
      | then-not-keeps+in_ok-push w ↦
          subst (λ fs. Adds InverseBound (breaches_at s is y all (take (k + 1) numbers)) old fs.items) (sym w.findings-is)
          (subst (λ bs. Adds InverseBound bs old w.push.new.self.items)
          (sym (next ∙ ap (λ l. xs ++ l) (told ∙ ap (λ t. cond (not t) (b ∷ []) []) w.if-not-keeps.true)))
          (adds-more InverseBound xs (b ∷ []) old mid _ c.loop-number.invariant
          (adds-one InverseBound b _ mid _ (w.finding.ensures there.0 there.1) w.in_ok-push.ensures.items)))
      | else-not-keeps w ↦
          subst (λ fs. Adds InverseBound (breaches_at s is y all (take (k + 1) numbers)) old fs.items) (sym w.findings-is)
          (subst (λ bs. Adds InverseBound bs old mid)
          (sym (next ∙ ap (λ l. xs ++ l) (told ∙ ap (λ t. cond (not t) (b ∷ []) []) w.if-not-keeps.false)))
          (adds-more InverseBound xs [] old mid mid c.loop-number.invariant (adds-none InverseBound mid)))
    ]
