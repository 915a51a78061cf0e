use Rattle.std.proofs.Common.{ℕ, List, ◌≡◌, ◌+◌, ◌∷◌, [], ◌++◌, ◌∙◌, map, option_copied, sym, subst, ap, arith}
use Rattle.conformance.specs.RuleFindings.{key}
use Rattle.schema_constraints.specs.RuleViews.{unique_seen}
use Rattle.typed_populations.specs.PopulationViews.{population_seen}
use Rattle.typed_populations.proofs.Found.{schema_seen}
use Rattle.population_uniqueness.specs.steps.Parts.{parts_by}
use Rattle.population_uniqueness.specs.steps.Positions.{numbers_in, positions_by, positions_among}
use Rattle.population_uniqueness.specs.steps.Keys.{Meets}
use Rattle.population_uniqueness.proofs.ByRow.{instance, stands, name_is, key_by_form}
use Rattle.population_uniqueness.proofs.Telling.{TellsUpTo, tells_first, tells_more, tells_as_before, tells_all}
use Rattle.population_uniqueness.proofs.repeats.repeats.Goals as goal
use Rattle.population_uniqueness.proofs.repeats.repeats.Goals.{then-branch+in_ok-push, else-branch}

pub loop-row-init : goal.loop-row-init
loop-row-init c =
    tells_first (unique_seen (schema_seen c.args.population.now) c.args.rule.now) (population_seen c.args.population.now)
    c.new-names.result.items c.with_hasher-met.result c.new-names.ensures.items c.with_hasher-met.ensures.empty

pub loop-row-preserved : goal.loop-row-preserved
loop-row-preserved c =
    let p = c.args.population.now in
    let rule = c.args.rule.now in
    let u = unique_seen (schema_seen p) rule in
    let row = c.loop-row.row in
    let x = c.instance-instance.result in
    let is = c.instance-instance.ensures in
    let old = c.loop-row.met in
    let new = c.meets_again.new.met in
    let names = c.loop-row.names.items in
    let again = c.in_ok-meets_again.field-0 in
    let by_form : map numbers_in c.in_ok-positions.positions.items ≡ map (positions_by rule) p.rows.forms.items =
    c.in_ok-positions.ensures ∙ ap (map (positions_by rule)) c.forms.ensures.forms in
    let found : option_copied c.positions_at-places.result ≡ positions_among c.in_ok-positions.positions.items x.form =
    c.positions_at-places.ensures ∙ ap (λ all. positions_among all x.form) c.deref.ensures.value in
    let same : key u (instance p row x is) ≡ parts_by x.values (numbers_in (option_copied c.positions_at-places.result)) =
    key_by_form p row x is rule c.requires.numbered c.in_ok-positions.positions.items by_form
    ∙ ap (λ o. parts_by x.values (numbers_in o)) (sym found) in
    let meets : Meets (key u (instance p row x is)) again old new =
    subst (λ k. Meets k again old new) (sym same) c.in_ok-meets_again.ensures in
    let told : List ℕ → Type 0 = λ ns. TellsUpTo u (population_seen p) (row + 1) ns new in
    elim c.if-branch.branch [
      | then-branch+in_ok-push w ↦
          subst told (sym (ap (λ v. v.items) w.names-is ∙ w.in_ok-push.ensures.items
          ∙ ap (λ n. names ++ n ∷ []) (sym (name_is p row x is))))
          (tells_more u (population_seen p) row (instance p row x is) (stands p row x is) names old new again meets
          c.loop-row.invariant w.if-branch.true)
      | else-branch w ↦
          subst told (sym (ap (λ v. v.items) w.names-is))
          (tells_as_before u (population_seen p) row (instance p row x is) (stands p row x is) names old new again meets
          c.loop-row.invariant w.if-branch.false)
    ]

pub returns : goal.returns
returns c =
    tells_all (unique_seen (schema_seen c.args.population.now) c.args.rule.now) (population_seen c.args.population.now)
    c.loop-row.row c.loop-row.names.items c.loop-row.met (omega (arith, c.loop-row-test.false, c.len-row-end.ensures))
    c.loop-row.invariant
