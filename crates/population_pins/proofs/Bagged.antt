-- The SETs and BAGs among the values of attributes, one by one.
use Rattle.std.specs.Prelude.{◌≡◌, ℕ, Bool, zero, suc, ◌+◌, ◌<◌, ◌≤◌, false, List, [], ◌∷◌, length, drop, None, Some, ◌⊎◌, ◌↔◌, Vec}
use Rattle.std.proofs.Common.{refl, sym, subst, arith, add-one, Global}
use Rattle.express_syntax.specs.Schemas.{Schema}
use Rattle.schema_semantics.specs.Names.{OneOf}
use Rattle.conformance.specs.Populations.{Slot}
use Rattle.conformance.specs.CollectionMembers.{InBag}
use Rattle.population_rows.specs.declared.form.SlotForm.{SlotForm}
use Rattle.typed_populations.specs.Rows.{slots_seen}
use Rattle.step_values.specs.steps.Slots.{kind_of, nth}
use Rattle.step_values.specs.Values.{Value, leaf, reference, typed, sequence, bag, Values, none, more}
use Rattle.step_values.proofs.Walks.{after, after_at}
use Rattle.population_pins.specs.steps.Bags.{is_of_parts}
use Rattle.population_pins.specs.steps.Pinning.{Pins, PinsUpTo}
use Rattle.population_pins.proofs.Pinning as pinning

-- values of other kinds have no SETs and BAGs in them
pub none-bagged : (in_sets : Bool) (y : ℕ) (v : Value) → is_of_parts (kind_of v) ≡ false → InBag in_sets y v → ⊥
none-bagged in_sets y (leaf a) e h = h
none-bagged in_sets y (reference z) e h = h
none-bagged in_sets y (typed n v) e h = absurd (cc)
none-bagged in_sets y (sequence vs) e h = absurd (cc)
none-bagged in_sets y (bag vs) e h = absurd (cc)

drop-some : {A : Type 0} (xs : List A) (i : ℕ) → i < length xs → (x : A) × (drop i xs ≡ x ∷ drop (i + 1) xs)
drop-some [] i lt = absurd (omega (arith, lt))
drop-some (x ∷ xs) zero lt = (x, refl)
drop-some (x ∷ xs) (suc i) lt =
    let (z, e) = drop-some xs i (omega (arith, lt)) in (z, rw add-one (rw add-one at e))

drop-past : {A : Type 0} (xs : List A) (i : ℕ) → length xs ≤ i → drop i xs ≡ []
drop-past [] zero h = refl
drop-past [] (suc i) h = refl
drop-past (x ∷ xs) zero h = absurd (omega (arith, h))
drop-past (x ∷ xs) (suc i) h = drop-past xs i (omega (arith, h))

after-none : (vs : Values) (i : ℕ) → nth vs i ≡ None → after i vs ≡ none
after-none none zero e = refl
after-none none (suc i) e = refl
after-none (more v vs) zero e = absurd (cc)
after-none (more v vs) (suc i) e = after-none vs i e

module _ (in_sets : Bool) (s : Schema) (xs : List SlotForm) (vs : Values) (old : Vec ℕ Global) where
  abbrev In : List Slot → ℕ → Type 0
  In slots y = OneOf (λ (x : Slot). InBag in_sets y x.value) slots

  abbrev Left : ℕ → List Slot
  Left i = slots_seen s (drop i xs) (after i vs)

  -- one value more
  pub next : (i : ℕ) (v : Value) (mid new : Vec ℕ Global) → i < length xs → nth vs i ≡ Some v
      → PinsUpTo (In (slots_seen s xs vs)) (In (Left i)) old mid → Pins (λ y. InBag in_sets y v) mid new
      → PinsUpTo (In (slots_seen s xs vs)) (In (Left (i + 1))) old new
  next i v mid new lt at h k =
      let (x, cut) = drop-some xs i lt in
      pinning.next (In (slots_seen s xs vs)) (In (Left i)) (λ y. InBag in_sets y v) (In (Left (i + 1))) old mid new h k
      (λ y. subst (λ ys. In (slots_seen s ys (after i vs)) y ↔ (InBag in_sets y v ⊎ In (Left (i + 1)) y)) (sym cut)
      (subst (λ us. In (slots_seen s (x ∷ drop (i + 1) xs) us) y ↔ (InBag in_sets y v ⊎ In (Left (i + 1)) y))
      (sym (after_at vs i v at)) ((λ t. t), (λ t. t))))

  -- no attribute more
  pub ends : (i : ℕ) (new : Vec ℕ Global) → length xs ≤ i → PinsUpTo (In (slots_seen s xs vs)) (In (Left i)) old new
      → Pins (In (slots_seen s xs vs)) old new
  ends i new past h =
      pinning.ends (In (slots_seen s xs vs)) (In (Left i)) old new h
      (λ y l. subst (λ ys. In (slots_seen s ys (after i vs)) y) (drop-past xs i past) l)

  no-slots : (ys : List SlotForm) → slots_seen s ys none ≡ []
  no-slots [] = refl
  no-slots (x ∷ ys) = refl

  -- no value more
  pub ends-early : (i : ℕ) (new : Vec ℕ Global) → nth vs i ≡ None
      → PinsUpTo (In (slots_seen s xs vs)) (In (Left i)) old new → Pins (In (slots_seen s xs vs)) old new
  ends-early i new at h =
      pinning.ends (In (slots_seen s xs vs)) (In (Left i)) old new h
      (λ y l. subst (λ zs. In zs y) (no-slots (drop i xs)) (subst (λ us. In (slots_seen s (drop i xs) us) y)
      (after-none vs i at) l))
