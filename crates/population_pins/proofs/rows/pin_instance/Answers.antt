use Rattle.std.proofs.Common.{ℕ, List, OnOk, ◌⊎◌, subst}
use Rattle.std.proofs.lemmas.Result.{on_ok_weaker}
use Rattle.schema_semantics.specs.Names.{OneOf}
use Rattle.conformance.specs.Populations.{Slot}
use Rattle.conformance.specs.CollectionMembers.{InBag}
use Rattle.population_rows.specs.declared.form.SlotForm.{SlotForm}
use Rattle.conformance.specs.Pins.{OccursAt}
use Rattle.typed_populations.specs.Rows.{slots_seen}
use Rattle.step_values.specs.steps.Slots.{nth}
use Rattle.population_pins.specs.steps.Pinning.{Pins}
use Rattle.population_pins.proofs.Pinning.{pins-both}
use Rattle.population_pins.specs.steps.Rows.{PinnedAt, PinnedBy}
use Rattle.population_pins.proofs.rows.pin_instance.Goals as goal

pub returns : goal.returns
returns c s =
    let x = c.args.form.now in
    let r = c.args.rules.now in
    let vs = c.args.instance.now.values in
    let n = c.args.instance.now.name in
    let old = c.args.pinned.now in
    let keyed = c.pin_keys.new.pinned in
    let new = c.pin_bags.new.pinned in
    let Key : List ℕ → ℕ → Type 0 = λ ps y. OneOf (λ p. OccursAt y (nth vs p)) ps in
    let Bag : List SlotForm → ℕ → Type 0 = λ xs y. OneOf (λ (z : Slot). InBag c.args.in_sets y z.value) (slots_seen s xs vs) in
    on_ok_weaker {Q = Pins (PinnedBy s c.args.in_sets x r n vs) old new} _
    (λ p. pins-both (PinnedAt r n) (λ y. Key r.keys.items y ⊎ Bag x.slots.items y) old c.pin_itself.new.pinned new
    c.in_ok-pin_itself.ensures
    (pins-both (Key r.keys.items) (Bag x.slots.items) c.pin_itself.new.pinned keyed new
    (subst (λ ps. Pins (Key ps) c.pin_itself.new.pinned keyed) c.deref.ensures.value c.in_ok-pin_keys.ensures)
    (subst (λ xs. Pins (Bag xs) keyed new) c.deref-2.ensures.value p)))
    (c.pin_bags.ensures s)
