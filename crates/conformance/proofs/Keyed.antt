-- Keys stay unique, where the instances that stand in them are told apart.
use Rattle.std.specs.Prelude.{◌≡◌, ◌≢◌, ℕ, ◌==◌, Bool, IsTrue, true, false, cond, List, [], ◌∷◌, Option, Some, None}
use Rattle.std.specs.List.{IsDistinct}
use Rattle.std.proofs.Common.{refl, ap, sym, subst, ◌∙◌, inl, inr, eqb-true, eq-eqb}
use Rattle.std.proofs.lemmas.Bool.{eqb-false}
use Rattle.std.proofs.lemmas.Map.Keys.{IsDistinct-head, IsDistinct-tail}
use Rattle.step_values.specs.Leaves as leaves
use Rattle.step_values.specs.Leaves.{Leaf}
use Rattle.step_values.specs.Values.{Value, leaf, reference, typed, sequence, bag, Values, none, more, Agree, AgreeEach}
use Rattle.step_values.specs.References.{renamed, renamed_each, EachReference, EachReferenceOf}
use Rattle.step_values.proofs.Agreement.{eqb_trans, agree_each_trans, agree_each_sym}
use Rattle.step_values.proofs.References.{each_in_bag_of}
use Rattle.step_values.proofs.Renaming.{reflected_each}
use Rattle.schema_semantics.specs.Names.{OneOf, Among}
use Rattle.schema_semantics.specs.Attributes.{Place}
use Rattle.schema_semantics.proofs.Lists.{every-at, every-of}
use Rattle.conformance.specs.ParameterFits.{is_listed}
use Rattle.conformance.specs.Populations.{Slot, Instance, instance_at, slot_at}
use Rattle.conformance.specs.SeparatingMaps.{Occurs, OccursIn}
use Rattle.conformance.specs.Images.{IsLed}
use Rattle.conformance.specs.Rules.{UniqueRule}
use Rattle.conformance.specs.RuleFindings.{given, with_part, parts, key}
use Rattle.conformance.specs.Pins.{OccursAt, IsInKey}
use Rattle.conformance.specs.RuleLaws.{names, ShareKey, HaveUniqueKeys}
use Rattle.conformance.proofs.Standing.{one_is}
use Rattle.conformance.proofs.Counting.{differs}
use Rattle.conformance.proofs.Keys.{no_finding_exactly_where_keys_are_unique}
use Rattle.conformance.specs.MeaningImages.{IsInstanceName, HasPlacesOnce, IsLedTo}
use Rattle.conformance.specs.MeaningLaws.{IsOnto, KeysStayUnique}
use Rattle.conformance.proofs.Led.{at_name, AgreeAt, slots_led, refers}

share_back : (u : UniqueRule) (x z : Instance) → ShareKey u x z → ShareKey u z x
share_back u x z (vs, ws, e, f, a) = (ws, vs, f, e, agree_each_sym vs ws a)

-- instances of two names don't share a key that is unique
apart_by_name : (u : UniqueRule) (is : List Instance) → HaveUniqueKeys u is → (x z : Instance) → Among x is
    → Among z is → x.name ≢ z.name → ShareKey u x z → ⊥
apart_by_name u [] h x z m n apart k = elim m [ ]
apart_by_name u (w ∷ is) h x z (inl e) (inl f) apart k = apart (ap (λ (i : Instance). i.name) (sym e ∙ f))
apart_by_name u (w ∷ is) h x z (inl e) (inr n) apart k =
    every-at (λ (v : Instance). ShareKey u v w → ⊥) z is h.0 n
    (share_back u w z (subst (λ (v : Instance). ShareKey u v z) (sym e) k))
apart_by_name u (w ∷ is) h x z (inr m) (inl f) apart k =
    every-at (λ (v : Instance). ShareKey u v w → ⊥) x is h.0 m (subst (λ (v : Instance). ShareKey u x v) (sym f) k)
apart_by_name u (w ∷ is) h x z (inr m) (inr n) apart k = apart_by_name u is h.1 x z m n apart k

-- Keys are unique if no two instances with different names share one.
unique_by_name : (u : UniqueRule) (js : List Instance) → IsDistinct (◌==◌) (names js)
    → ((x z : Instance) → Among x js → Among z js → x.name ≢ z.name → ShareKey u x z → ⊥) → HaveUniqueKeys u js
unique_by_name u [] d f = tt
unique_by_name u (x ∷ xs) d f = (
  every-of (λ (z : Instance). ShareKey u z x → ⊥) xs
      (λ z m k. f z x (inr m) (inl refl)
      (λ e. eqb-false x.name z.name (differs x.name z xs (IsDistinct-head (◌==◌) x.name (names xs) d) m) (sym e)) k),
  unique_by_name u xs (IsDistinct-tail (◌==◌) x.name (names xs) d) (λ v w m n. f v w (inr m) (inr n)),
)

given_is : (o : Option Value) (v : Value) → given o ≡ Some v → o ≡ Some v
given_is None v e = e
given_is (Some (leaf leaves.unset)) v e = absurd (cc)
given_is (Some (leaf leaves.derived)) v e = absurd (cc)
given_is (Some (leaf (leaves.number z))) v e = e
given_is (Some (leaf (leaves.text z))) v e = e
given_is (Some (leaf (leaves.bits z))) v e = e
given_is (Some (leaf (leaves.element z))) v e = e
given_is (Some (reference y)) v e = e
given_is (Some (typed n w)) v e = e
given_is (Some (sequence ws)) v e = e
given_is (Some (bag ws)) v e = e

-- a part, and the others
parted : (o : Option Value) (q : Option Values) (vs : Values) → with_part o q ≡ Some vs
    → (v : Value) × (ws : Values) × (o ≡ Some v) × (q ≡ Some ws) × (vs ≡ more v ws)
parted (Some v) (Some ws) vs e = (v, ws, refl, refl, (cc))
parted (Some v) None vs e = absurd (cc)
parted None q vs e = absurd (cc)

-- what holds of each instance that stands in a value
module _ (Q : ℕ → Type 0) where
  mutual
    each_occurring : (v : Value) → ((y : ℕ) → Occurs y v → Q y) → EachReference Q v
    each_occurring (leaf a) f = tt
    each_occurring (reference y) f = f y refl
    each_occurring (typed n v) f = each_occurring v f
    each_occurring (sequence vs) f = each_occurring_in vs f
    each_occurring (bag vs) f = each_occurring_in vs f

    each_occurring_in : (vs : Values) → ((y : ℕ) → OccursIn y vs → Q y) → EachReferenceOf Q vs
    each_occurring_in none f = tt
    each_occurring_in (more v vs) f =
        (each_occurring v (λ y o. f y (inl o)), each_occurring_in vs (λ y o. f y (inr o)))

  parts_refer : (ps : List Place) (slots : List Slot) (vs : Values)
      → ((p : Place) (v : Value) → Among p ps → slot_at slots p ≡ Some v → EachReference Q v)
      → parts ps slots ≡ Some vs → EachReferenceOf Q vs
  parts_refer [] slots vs f e = subst (EachReferenceOf Q) (first vs e) tt
    where
      first : (vs : Values) → Some none ≡ Some vs → none ≡ vs
      first vs e = cc
  parts_refer (p ∷ ps) slots vs f e =
      let cut = parted (given (slot_at slots p)) (parts ps slots) vs e in
      subst (EachReferenceOf Q) (sym cut.4) (
        f p cut.0 (inl refl) (given_is (slot_at slots p) cut.0 cut.2),
        parts_refer ps slots cut.1 (λ r v m. f r v (inr m)) cut.3,
      )

key_parts : (u : UniqueRule) (x : Instance) (vs : Values) → key u x ≡ Some vs
    → IsTrue (is_listed u.entity x.types) × (parts u.places x.slots ≡ Some vs)
key_parts u x vs e = by (is_listed u.entity x.types) refl e
  where
    by : (b : Bool) → is_listed u.entity x.types ≡ b → cond b (parts u.places x.slots) None ≡ Some vs
        → IsTrue (is_listed u.entity x.types) × (parts u.places x.slots ≡ Some vs)
    by true h k = (h, k)
    by false h k = absurd (cc)

-- keys of instances that are led along
module _ (h : ℕ → ℕ) (x z : Instance) (once : HasPlacesOnce x) (l : IsLed h x z) where
  some_value : (u w : Value) → Some u ≡ Some w → u ≡ w
  some_value u w e = cc

  -- a leaf that is given
  leaf_given : (b : Leaf) (w : Value) → given (Some (leaf b)) ≡ Some w
      → (v : Value) × (given (Some (leaf b)) ≡ Some v) × Agree (◌==◌) (renamed h v) w
  leaf_given leaves.unset w e = absurd (cc)
  leaf_given leaves.derived w e = absurd (cc)
  leaf_given (leaves.number n) w e = (
    leaf (leaves.number n),
    refl,
    subst (λ u. Agree (◌==◌) (leaf (leaves.number n)) u)
        (some_value (leaf (leaves.number n)) w e) refl,
  )
  leaf_given (leaves.text n) w e = (
    leaf (leaves.text n),
    refl,
    subst (λ u. Agree (◌==◌) (leaf (leaves.text n)) u)
        (some_value (leaf (leaves.text n)) w e) refl,
  )
  leaf_given (leaves.bits n) w e = (
    leaf (leaves.bits n),
    refl,
    subst (λ u. Agree (◌==◌) (leaf (leaves.bits n)) u)
        (some_value (leaf (leaves.bits n)) w e) refl,
  )
  leaf_given (leaves.element n) w e = (
    leaf (leaves.element n),
    refl,
    subst (λ u. Agree (◌==◌) (leaf (leaves.element n)) u)
        (some_value (leaf (leaves.element n)) w e) refl,
  )

  given_back : (o q : Option Value) → AgreeAt h o q → (w : Value) → given q ≡ Some w
      → (v : Value) × (given o ≡ Some v) × Agree (◌==◌) (renamed h v) w
  given_back None None a w e = absurd (cc)
  given_back (Some v) None a w e = absurd a
  given_back None (Some v) a w e = absurd a
  given_back (Some (leaf b)) (Some (leaf c)) a w e =
      subst (λ b. (v : Value) × (given (Some (leaf b)) ≡ Some v) × Agree (◌==◌) (renamed h v) w) (sym a)
      (leaf_given c w e)
  given_back (Some (reference y)) (Some (reference k)) a w e =
      (reference y, refl, subst (λ u. Agree (◌==◌) (reference (h y)) u) (some_value (reference k) w e) a)
  given_back (Some (typed n v)) (Some (typed m k)) a w e =
      (typed n v, refl, subst (λ u. Agree (◌==◌) (typed n (renamed h v)) u) (some_value (typed m k) w e) a)
  given_back (Some (sequence vs)) (Some (sequence ks)) a w e =
      (sequence vs, refl, subst (λ u. Agree (◌==◌) (sequence (renamed_each h vs)) u) (some_value (sequence ks) w e) a)
  given_back (Some (bag vs)) (Some (bag ks)) a w e =
      (bag vs, refl, subst (λ u. Agree (◌==◌) (bag (renamed_each h vs)) u) (some_value (bag ks) w e) a)
  given_back _ _ a w e = absurd a

  parts_back : (ps : List Place) (ws : Values) → parts ps z.slots ≡ Some ws
      → (vs : Values) × (parts ps x.slots ≡ Some vs) × AgreeEach (◌==◌) (renamed_each h vs) ws
  parts_back [] ws e = (none, refl, subst (λ u. AgreeEach (◌==◌) none u) (first ws e) tt)
    where
      first : (ws : Values) → Some none ≡ Some ws → none ≡ ws
      first ws e = cc
  parts_back (p ∷ ps) ws e =
      let cut = parted (given (slot_at z.slots p)) (parts ps z.slots) ws e in
      let one = given_back (slot_at x.slots p) (slot_at z.slots p) (slots_led h x z once l p) cut.0 cut.2 in
      let rest = parts_back ps cut.1 cut.3 in (
        more one.0 rest.0,
        ap (λ o. with_part o (parts ps x.slots)) one.1 ∙ ap (with_part (Some one.0)) rest.1,
        subst (λ u. AgreeEach (◌==◌) (renamed_each h (more one.0 rest.0)) u) (sym cut.4) (one.2, rest.2),
      )

  key_back : (u : UniqueRule) (ws : Values) → key u z ≡ Some ws
      → (vs : Values) × (key u x ≡ Some vs) × AgreeEach (◌==◌) (renamed_each h vs) ws
  key_back u ws e =
      let cut = key_parts u z ws e in
      let found = parts_back u.places ws cut.1 in
      let stated : is_listed u.entity x.types ≡ true = ap (is_listed u.entity) l.types ∙ cut.0 in
      (found.0, ap (λ (b : Bool). cond b (parts u.places x.slots) None) stated ∙ found.1, found.2)

module _ (u : UniqueRule) (is js : List Instance) (h : ℕ → ℕ) (to : IsLedTo is js h) (onto : IsOnto is js h)
    (apart : (y z : ℕ) → IsInstanceName is y → IsInKey is z u → h y ≡ h z → y ≡ z) where
  -- what stands in a key
  key_names : (x : Instance) → Among x is → (vs : Values) → key u x ≡ Some vs → EachReferenceOf (IsInstanceName is) vs
  key_names x m vs e =
      let cut = key_parts u x vs e in
      parts_refer (IsInstanceName is) u.places x.slots vs (λ p v n k. refers is to.closed x m p v k) cut.1

  key_keys : (x : Instance) → Among x is → (vs : Values) → key u x ≡ Some vs
      → EachReferenceOf (λ y. IsInKey is y u) vs
  key_keys x m vs e =
      let cut = key_parts u x vs e in
      parts_refer (λ y. IsInKey is y u) u.places x.slots vs
      (λ p v n k. each_occurring (λ y. IsInKey is y u) v (λ y o. stands y p v n k o cut.0)) cut.1
    where
      stands : (y : ℕ) (p : Place) (v : Value) → Among p u.places → slot_at x.slots p ≡ Some v → Occurs y v
          → IsTrue (is_listed u.entity x.types) → IsInKey is y u
      stands y p v n k o t =
          inr (one_is (λ (x : Instance). IsTrue (is_listed u.entity x.types)
          × OneOf (λ (p : Place). OccursAt y (slot_at x.slots p)) u.places) x is m
          (t, one_is (λ (p : Place). OccursAt y (slot_at x.slots p)) p u.places n (subst (OccursAt y) (sym k) o)))

  some_instance : (v w : Instance) → Some v ≡ Some w → v ≡ w
  some_instance v w e = cc

  led : (y : ℕ) (x z : Instance) → instance_at is y ≡ Some x → instance_at js (h y) ≡ Some z → IsLed h x z
  led y x z e f =
      let a = to.led y x e in subst (λ (v : Instance). IsLed h x v) (some_instance a.0 z (sym a.1 ∙ f)) a.2

  shared_back : (y k : ℕ) (x z v w : Instance) → instance_at is y ≡ Some x → instance_at js (h y) ≡ Some v
      → instance_at is k ≡ Some z → instance_at js (h k) ≡ Some w → ShareKey u v w → ShareKey u x z
  shared_back y k x z v w e f g q (vs, ws, a, b, same) =
      let here = at_name y is x e in
      let there = at_name k is z g in
      let one = key_back h x v (every-at HasPlacesOnce x is to.once here.0) (led y x v e f) u vs a in
      let two = key_back h z w (every-at HasPlacesOnce z is to.once there.0) (led k z w g q) u ws b in
      let alike : AgreeEach (◌==◌) (renamed_each h one.0) (renamed_each h two.0) =
      agree_each_trans (◌==◌) (◌==◌) (◌==◌) eqb_trans (renamed_each h one.0) ws (renamed_each h two.0)
      (agree_each_trans (◌==◌) (◌==◌) (◌==◌) eqb_trans (renamed_each h one.0) vs ws one.2 same)
      (agree_each_sym (renamed_each h two.0) ws two.2) in (
        one.0,
        two.0,
        one.1,
        two.1,
        reflected_each h (IsInstanceName is) (λ y. IsInKey is y u) apart (◌==◌) (◌==◌) (IsInstanceName is)
            (λ y z n i t. eq-eqb y z (apart y z n i (eqb-true (h y) (h z) t))) one.0 two.0
            (key_names x here.0 one.0 one.1) (each_in_bag_of (IsInstanceName is) one.0 (key_names x here.0 one.0 one.1))
            (key_keys z there.0 two.0 two.1) alike,
      )

  stay_unique : IsDistinct (◌==◌) (names js) → HaveUniqueKeys u is → HaveUniqueKeys u js
  stay_unique distinct unique = unique_by_name u js distinct no_two
    where
      no_two : (v w : Instance) → Among v js → Among w js → v.name ≢ w.name → ShareKey u v w → ⊥
      no_two v w m n differ shared =
          let a = onto v m in
          let b = onto w n in
          apart_by_name u is unique a.1 b.1 (at_name a.0 is a.1 a.2).0 (at_name b.0 is b.1 b.2).0
          (λ e. differ ((at_name (h a.0) js v a.3).1
          ∙ (ap h (sym (at_name a.0 is a.1 a.2).1 ∙ (e ∙ (at_name b.0 is b.1 b.2).1))
          ∙ sym (at_name (h b.0) js w b.3).1)))
          (shared_back a.0 b.0 a.1 b.1 v w a.2 a.3 b.2 b.3 shared)

pub keys_stay_unique : KeysStayUnique
keys_stay_unique rules is js h distinct to onto apart unbroken =
    (no_finding_exactly_where_keys_are_unique rules js).1
    (every-of (λ (u : UniqueRule). IsTrue u.is_checked → HaveUniqueKeys u js) rules.uniques
    (λ u m checked. stay_unique u is js h to onto
    (λ y z n i e. apart y z n (one_is (IsInKey is z) u rules.uniques m i) e) distinct
    (every-at (λ (u : UniqueRule). IsTrue u.is_checked → HaveUniqueKeys u is) u rules.uniques
    ((no_finding_exactly_where_keys_are_unique rules is).0 unbroken) m checked)))
