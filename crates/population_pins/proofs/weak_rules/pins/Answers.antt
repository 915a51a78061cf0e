use Rattle.std.proofs.Common.{ℕ, sym, subst}
use Rattle.std.specs.Prelude.{IsTrue, ◌⊎◌, ◌↔◌}
use Rattle.schema_semantics.specs.Names.{OneOf}
use Rattle.conformance.specs.Pins.{IsInverseSide, StandsInsideUnique, StandsBesideItsClass, IsWeaklyPinned}
use Rattle.schema_names.specs.Schemas.{the_schema}
use Rattle.schema_constraints.specs.RuleViews.{rules_seen}
use Rattle.typed_populations.specs.PopulationViews.{population_seen}
use Rattle.population_pins.proofs.Pinning.{pins-both, pins-alike}
use Rattle.population_pins.specs.steps.Elements.{inside, beside}
use Rattle.population_pins.specs.Lists.{StandsBeside}
use Rattle.population_pins.specs.steps.Rows.{PinsByForm}
use Rattle.population_pins.proofs.Assembled.{together, from-none}
use Rattle.population_pins.proofs.Beside.{from-empty}
use Rattle.population_pins.proofs.Distinct.{names-distinct}
use Rattle.population_pins.proofs.weak_rules.pins.Goals as goal

pub returns-clause-pins : goal.returns-clause-pins
returns-clause-pins c d en those domain are chosen =
    let p = c.args.extents.now.population.now in
    let s = the_schema p.types.now.names in
    let rules = rules_seen s c.args.extents.now.rules.now in
    let is = population_seen p in
    let ByForm : ℕ → Type 0 = λ y. OneOf (PinsByForm s en those rules.uniques y) is in
    let Side : ℕ → Type 0 = λ y. OneOf (IsInverseSide is y) rules.inverses in
    let Inside : ℕ → Type 0 = λ y. OneOf (StandsInsideUnique s d en y) is in
    let old = c.new-names.result in
    let formed = c.pin_by_forms.new.pinned in
    let sided = c.pin_sides.new.pinned in
    let new = c.gather_elements.new.weak.names in
    λ y. subst (λ b. IsTrue b ↔ IsWeaklyPinned s d en rules those is y) (sym (c.in_ok-pins.ensures.names y))
    (from-none (IsWeaklyPinned s d en rules those is) old new c.new-names.ensures.items
    (pins-alike (λ y. (ByForm y ⊎ Side y) ⊎ Inside y) (IsWeaklyPinned s d en rules those is) old new
    (together s d en rules those is (names-distinct p))
    (pins-both (λ y. ByForm y ⊎ Side y) Inside old sided new
    (pins-both ByForm Side old formed sided (c.in_ok-pin_by_forms.ensures en those are chosen) c.in_ok-pin_sides.ensures)
    (λ y. c.in_ok-gather_elements.ensures d en domain are (inside y)))) y)

pub returns-clause-lists : goal.returns-clause-lists
returns-clause-lists c d en domain are E y =
    let p = c.args.extents.now.population.now in
    let s = the_schema p.types.now.names in
    subst (λ ls. OneOf (StandsBeside E y) ls ↔ OneOf (StandsBesideItsClass s d en E y) (population_seen p))
    (sym c.in_ok-pins.ensures.lists)
    (from-empty (StandsBeside E y) (OneOf (StandsBeside E y) c.gather_elements.new.weak.lists)
    (OneOf (StandsBesideItsClass s d en E y) (population_seen p)) c.new-lists.result c.new-lists.ensures
    (c.in_ok-gather_elements.ensures d en domain are (beside E y)))
