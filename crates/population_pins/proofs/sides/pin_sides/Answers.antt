use Rattle.std.proofs.Common.{◌≡◌, ◌∙◌, ap, map, subst, arith}
use Rattle.schema_names.specs.Schemas.{the_schema}
use Rattle.schema_constraints.specs.RuleViews.{inverse_seen}
use Rattle.schema_semantics.specs.Names.{OneOf}
use Rattle.population_inverses.specs.steps.Inverses.{numbers_by, row_by}
use Rattle.typed_populations.specs.Rows.{instance_seen}
use Rattle.typed_populations.specs.PopulationViews.{population_seen}
use Rattle.typed_populations.specs.PopulationTables.{form_among}
use Rattle.typed_populations.proofs.Found.{kept}
use Rattle.population_pins.specs.steps.Pinning.{Pins}
use Rattle.population_pins.proofs.Listing.{next, ends}
use Rattle.population_pins.proofs.Pinning.{pins-alike}
use Rattle.population_pins.specs.steps.Sides.{IsOnSideOf}
use Rattle.population_pins.proofs.Distinct.{names-distinct}
use Rattle.population_pins.proofs.Sided.{IsSideOf, row-is, sides-are}
use Rattle.population_pins.proofs.sides.pin_sides.Goals as goal

pub loop-row-preserved : goal.loop-row-preserved
loop-row-preserved c =
    let p = c.args.extents.now.population.now in
    let s = the_schema p.types.now.names in
    let all = c.args.extents.now.rules.now.inverses.items in
    let is = population_seen p in
    let inverses = map (inverse_seen s) all in
    let x = c.instance-instance.result in
    let o = form_among p.rows.forms.items x.form in
    let seen = instance_seen s x.name c.instance-instance.ensures.section o x.values in
    let forms = p.rows.forms.items in
    let mid = c.loop-row.pinned in
    let new = c.pin_sides_of.new.pinned in
    let rows-are : map (λ v. v.items) c.deref-in-loop-row.result.now ≡ map (numbers_by all 0) forms =
    ap (map (λ v. v.items)) c.deref-in-loop-row.ensures.value ∙ c.in_ok-numbers.ensures
    ∙ ap (λ l. map (numbers_by l 0) c.forms.result.now) c.deref.ensures.value
    ∙ ap (map (numbers_by all 0)) c.forms.ensures.forms in
    let row : c.row_at.result.now ≡ row_by (map (numbers_by all 0) forms) x.form =
    c.row_at.ensures ∙ ap (λ r. row_by r x.form) rows-are in
    let one : Pins (λ y. OneOf (IsSideOf is y seen) inverses) mid new =
    pins-alike (IsOnSideOf s is all x.name (row_by (map (numbers_by all 0) forms) x.form))
    (λ y. OneOf (IsSideOf is y seen) inverses) mid new
    (λ y. row-is s is all y x.name c.instance-instance.ensures.section x.values c.requires.numbered.inverses forms
    (kept p).numbered x.form)
    (subst (λ ns. Pins (IsOnSideOf s is all x.name ns) mid new) row c.in_ok-pin_sides_of.ensures) in
    next (λ y z. OneOf (IsSideOf is y z) inverses) is c.loop-row.row c.args.pinned.now seen c.loop-row.pinned new
    c.instance-instance.ensures.seen c.loop-row.invariant one

pub returns : goal.returns
returns c =
    let p = c.args.extents.now.population.now in
    let s = the_schema p.types.now.names in
    let is = population_seen p in
    let inverses = map (inverse_seen s) c.args.extents.now.rules.now.inverses.items in
    let past = c.loop-row-test.false in
    let end = c.len-row-end.ensures in
    pins-alike _ _ c.args.pinned.now c.loop-row.pinned (λ y. sides-are is (names-distinct p) y inverses)
    (ends (λ y x. OneOf (IsSideOf is y x) inverses) is c.loop-row.row c.args.pinned.now c.loop-row.pinned
    (omega (arith, past, end)) c.loop-row.invariant)
