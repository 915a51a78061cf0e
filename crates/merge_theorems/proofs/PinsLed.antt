-- An image leads what is pinned by the weak rules to what is pinned by them, and nothing else.
use Rattle.std.specs.Prelude.{◌≡◌, ℕ, ◌==◌, Bool, IsTrue, List, Option, None, Some, ◌⊎◌}
use Rattle.std.specs.List.{IsDistinct}
use Rattle.std.proofs.Common.{refl, sym, ap, subst, ◌∙◌, inl, inr}
use Rattle.std.proofs.lemmas.Bool.{false≢true}
use Rattle.step_values.specs.Values.{Value, Values, Agree, AgreeEach}
use Rattle.step_values.specs.References.{renamed, renamed_each}
use Rattle.step_values.proofs.Agreement.{eqb_sym, agree_back}
use Rattle.express_syntax.specs.Schemas.{Schema, DataType}
use Rattle.schema_semantics.specs.Names.{Name, OneOf, Among}
use Rattle.schema_semantics.specs.Attributes.{Place}
use Rattle.schema_semantics.proofs.Lists.{from-map, every-at}
use Rattle.conformance.specs.Choices.{MergeOptions}
use Rattle.conformance.specs.Bases.{Domain, base}
use Rattle.conformance.specs.ParameterFits.{is_listed}
use Rattle.conformance.specs.Entities.{Entities, data_types}
use Rattle.conformance.specs.Populations.{Slot, Instance, instance_at, slot_at, types_in, types_at}
use Rattle.conformance.specs.CollectionMembers.{InBag, StandsInBag}
use Rattle.conformance.specs.Images.{IsLed}
use Rattle.conformance.specs.Rules.{UniqueRule, InverseAttribute, Rules}
use Rattle.conformance.specs.Elements.{AnElement, StandsWithin, HasUnique, HasUniqueValue}
use Rattle.conformance.specs.Pins.{HasUnchosenLeaf, OccursAt, IsInKey, RefersByInverse, IsInverseSide, StandsInsideUnique, IsPinnedElsewhere, IsWeaklyPinned}
use Rattle.conformance.specs.RuleLaws.{names}
use Rattle.conformance.proofs.Standing.{either, found, one_is}
use Rattle.conformance.proofs.There as there
use Rattle.conformance.specs.MeaningImages.{IsInstanceName, HasPlacesOnce, IsLedTo}
use Rattle.conformance.specs.MeaningLaws.{IsOnto}
use Rattle.conformance.proofs.Led.{at_name, place_at, AgreeAt, slots_led, refers}
use Rattle.conformance.proofs.Holding.{at_own_name}
use Rattle.merge_theorems.proofs.Standing.{occurs_same, bag_same, element_same, within_same, unique_same, From, occurs_led, occurs_back, bag_led, bag_back, element_led, element_back, within_led, within_back, unique_led, unique_back}

back_again : (v w : Value) → Agree (◌==◌) v w → Agree (◌==◌) w v
back_again v w e = agree_back (◌==◌) (◌==◌) eqb_sym v w e

one_instance : {x z : Instance} → Some x ≡ Some z → x ≡ z
one_instance e = cc

one_value : {v w : Value} → Some v ≡ Some w → v ≡ w
one_value e = cc

module _ (is js : List Instance) (h : ℕ → ℕ) (distinct : IsDistinct (◌==◌) (names is))
    (distinct_there : IsDistinct (◌==◌) (names js)) (to : IsLedTo is js h) (onto : IsOnto is js h) where
  -- an instance, and the one that it is led to
  pub record IsPair (x z : Instance) : Type 0 where
    pub here : Among x is
    pub there : Among z js
    pub name : h x.name ≡ z.name
    pub led : IsLed h x z
    pub once : HasPlacesOnce x

  led_at : (y : ℕ) (x : Instance) → instance_at is y ≡ Some x → (z : Instance) × IsPair x z
  led_at y x e =
      let z = to.led y x e in
      let known = at_name y is x e in
      let there = at_name (h y) js z.0 z.1 in (
        z.0,
        record {
          here = known.0;
          there = there.0;
          name = ap h known.1 ∙ sym there.1;
          led = z.2;
          once = every-at HasPlacesOnce x is to.once known.0;
        },
      )

  pub of_instance : (x : Instance) → Among x is → (z : Instance) × IsPair x z
  of_instance x m = led_at x.name x (at_own_name x is distinct m)

  pub to_instance : (z : Instance) → Among z js → (x : Instance) × IsPair x z
  to_instance z m =
      let (y, x, here, there) = onto z m in
      let pair = led_at y x here in
      let same : pair.0 ≡ z = one_instance (sym (at_own_name pair.0 js distinct_there pair.1.there)
      ∙ ap (instance_at js) (sym pair.1.name ∙ ap h (at_name y is x here).1) ∙ there) in
      (x, subst (IsPair x) same pair.1)

  slot_to : (x z : Instance) → IsPair x z → (a : Slot) → Among a x.slots
      → (c : Slot) × Among c z.slots × (a.place ≡ c.place) × Agree (◌==◌) (renamed h a.value) c.value
  slot_to x z pair a m =
      let c = from-map (λ (y : Slot). y.place) z.slots a.place (pair.led.places a m) in
      let b = pair.led.values c.0 c.1 in
      let same : b.0.value ≡ a.value =
      one_value (sym (place_at b.0 x.slots pair.once b.1) ∙ ap (slot_at x.slots) (b.2 ∙ c.2)
      ∙ place_at a x.slots pair.once m) in
      (c.0, c.1, sym c.2, subst (λ v. Agree (◌==◌) (renamed h v) c.0.value) same b.3)

  types_to : (y : ℕ) (x : Instance) → instance_at is y ≡ Some x → types_at is y ≡ types_at js (h y)
  types_to y x e =
      let z = to.led y x e in
      ap types_in e ∙ z.2.types ∙ sym (ap types_in z.1)

  occurs_at_led : (x z : Instance) → IsPair x z → (p : Place) (y : ℕ) → OccursAt y (slot_at x.slots p)
      → OccursAt (h y) (slot_at z.slots p)
  occurs_at_led x z pair p y o = by (slot_at x.slots p) (slot_at z.slots p) (slots_led h x z pair.once pair.led p) o
    where
      by : (a b : Option Value) → AgreeAt h a b → OccursAt y a → OccursAt (h y) b
      by None b e o = elim o [ ]
      by (Some v) (Some w) e o = occurs_same (h y) (renamed h v) w e (occurs_led h y v o)
      by (Some v) None e o = absurd e

  occurs_at_back : (x z : Instance) → IsPair x z → (p : Place) (w : ℕ) → OccursAt w (slot_at z.slots p)
      → From h w (λ y. OccursAt y (slot_at x.slots p))
  occurs_at_back x z pair p w o = by (slot_at x.slots p) (slot_at z.slots p) (slots_led h x z pair.once pair.led p) o
    where
      by : (a b : Option Value) → AgreeAt h a b → OccursAt w b → From h w (λ y. OccursAt y a)
      by a None e o = elim o [ ]
      by (Some v) (Some u) e o = occurs_back h w v (occurs_same w u (renamed h v) (back_again (renamed h v) u e) o)
      by None (Some u) e o = absurd e

  pub named_at : (x : Instance) → Among x is → (p : Place) (y : ℕ) → OccursAt y (slot_at x.slots p) → IsInstanceName is y
  named_at x m p y o = by (slot_at x.slots p) refl o
    where
      by : (a : Option Value) → slot_at x.slots p ≡ a → OccursAt y a → IsInstanceName is y
      by None e o = elim o [ ]
      by (Some v) e o = there.at (IsInstanceName is) y v (refers is to.closed x m p v e) o

  module _ (s : Schema) (d : Domain) (en : Entities) where
    module _ (P Q : Values → Type 0) (f : (vs : Values) → P vs → Q (renamed_each h vs))
        (stable : (vs ws : Values) → AgreeEach (◌==◌) vs ws → Q vs → Q ws) where
      pub value_to : (x z : Instance) → IsPair x z → HasUniqueValue s d en P x → HasUniqueValue s d en Q z
      value_to x z pair o =
          let a = found (λ (y : Slot). OneOf (λ (k : DataType). HasUnique s d P (base d k) y.value)
          (data_types s en x.types y.place)) x.slots o in
          let k = found (λ (k : DataType). HasUnique s d P (base d k) a.0.value) (data_types s en x.types a.0.place)
          a.2 in
          let c = slot_to x z pair a.0 a.1 in
          let u = unique_same s d Q stable (base d k.0) (renamed h a.0.value) c.0.value c.3
          (unique_led h s d P Q f (base d k.0) a.0.value k.2) in
          let m : Among k.0 (data_types s en z.types c.0.place) =
          subst (λ p. Among k.0 (data_types s en z.types p)) c.2
          (subst (λ ts. Among k.0 (data_types s en ts a.0.place)) pair.led.types k.1) in
          one_is (λ (y : Slot). OneOf (λ (k : DataType). HasUnique s d Q (base d k) y.value)
          (data_types s en z.types y.place)) c.0 z.slots c.1
          (one_is (λ (k : DataType). HasUnique s d Q (base d k) c.0.value) k.0 (data_types s en z.types c.0.place) m u)

    module _ {A : Type 0} (Q : Values → Type 0) (P : A → Values → Type 0) (G : A → Type 0)
        (f : (vs : Values) → Q (renamed_each h vs) → (a : A) × P a vs × G a)
        (stable : (vs ws : Values) → AgreeEach (◌==◌) vs ws → Q vs → Q ws) where
      pub value_from : (x z : Instance) → IsPair x z → HasUniqueValue s d en Q z
          → (a : A) × HasUniqueValue s d en (P a) x × G a
      value_from x z pair o =
          let c = found (λ (y : Slot). OneOf (λ (k : DataType). HasUnique s d Q (base d k) y.value)
          (data_types s en z.types y.place)) z.slots o in
          let k = found (λ (k : DataType). HasUnique s d Q (base d k) c.0.value) (data_types s en z.types c.0.place)
          c.2 in
          let a = pair.led.values c.0 c.1 in
          let u = unique_back h s d Q P G f (base d k.0) a.0.value
          (unique_same s d Q stable (base d k.0) c.0.value (renamed h a.0.value)
          (back_again (renamed h a.0.value) c.0.value a.3) k.2) in
          let m : Among k.0 (data_types s en x.types a.0.place) =
          subst (λ p. Among k.0 (data_types s en x.types p)) (sym a.2)
          (subst (λ ts. Among k.0 (data_types s en ts c.0.place)) (sym pair.led.types) k.1) in (
            u.0,
            one_is (λ (y : Slot). OneOf (λ (k : DataType). HasUnique s d (P u.0) (base d k) y.value)
                (data_types s en x.types y.place)) a.0 x.slots a.1
                (one_is (λ (k : DataType). HasUnique s d (P u.0) (base d k) a.0.value) k.0
                (data_types s en x.types a.0.place) m u.1),
            u.2,
          )

    inside_led : (y : ℕ) → OneOf (StandsInsideUnique s d en y) is → OneOf (StandsInsideUnique s d en (h y)) js
    inside_led y o =
        let i = found (StandsInsideUnique s d en y) is o in
        let z = of_instance i.0 i.1 in
        one_is (StandsInsideUnique s d en (h y)) z.0 js z.1.there
        (value_to (AnElement (StandsWithin y)) (AnElement (StandsWithin (h y)))
        (element_led h (StandsWithin y) (StandsWithin (h y)) (within_led h y))
        (element_same (StandsWithin (h y)) (within_same (h y))) i.0 z.0 z.1 i.2)

    inside_back : (w : ℕ) → OneOf (StandsInsideUnique s d en w) js
        → From h w (λ y. OneOf (StandsInsideUnique s d en y) is)
    inside_back w o =
        let j = found (StandsInsideUnique s d en w) js o in
        let x = to_instance j.0 j.1 in
        let a = value_from (AnElement (StandsWithin w)) (λ y. AnElement (StandsWithin y)) (λ y. h y ≡ w)
        (element_back h (StandsWithin w) (λ y. StandsWithin y) (λ y. h y ≡ w) (within_back h w))
        (element_same (StandsWithin w) (within_same w)) x.0 j.0 x.1 j.2 in
        (a.0, one_is (StandsInsideUnique s d en a.0) x.0 is x.1.here a.1, a.2)

    bags_led : (in_sets : Bool) (y : ℕ) → OneOf (StandsInBag s d en in_sets y) is → OneOf (StandsInBag s d en in_sets (h y)) js
    bags_led in_sets y o =
        let i = found (StandsInBag s d en in_sets y) is o in
        let a = found (λ (x : Slot). InBag in_sets y x.value) i.0.slots i.2 in
        let z = of_instance i.0 i.1 in
        let c = slot_to i.0 z.0 z.1 a.0 a.1 in
        one_is (StandsInBag s d en in_sets (h y)) z.0 js z.1.there
        (one_is (λ (x : Slot). InBag in_sets (h y) x.value) c.0 z.0.slots c.1
        (bag_same in_sets (h y) (renamed h a.0.value) c.0.value c.3 (bag_led h in_sets y a.0.value a.2)))

    bags_back : (in_sets : Bool) (w : ℕ) → OneOf (StandsInBag s d en in_sets w) js
        → From h w (λ y. OneOf (StandsInBag s d en in_sets y) is)
    bags_back in_sets w o =
        let j = found (StandsInBag s d en in_sets w) js o in
        let c = found (λ (x : Slot). InBag in_sets w x.value) j.0.slots j.2 in
        let x = to_instance j.0 j.1 in
        let a = x.1.led.values c.0 c.1 in
        let b = bag_back h in_sets w a.0.value (bag_same in_sets w c.0.value (renamed h a.0.value)
        (back_again (renamed h a.0.value) c.0.value a.3) c.2) in (
          b.0,
          one_is (StandsInBag s d en in_sets b.0) x.0 is x.1.here
              (one_is (λ (y : Slot). InBag in_sets b.0 y.value) a.0 x.0.slots a.1 b.1),
          b.2,
        )

    module _ (chosen : List Name) where
      leaf_led : (y : ℕ) → HasUnchosenLeaf s en chosen (types_at is y) → HasUnchosenLeaf s en chosen (types_at js (h y))
      leaf_led y o = by (instance_at is y) refl o
        where
          by : (a : Option Instance) → instance_at is y ≡ a → HasUnchosenLeaf s en chosen (types_in a)
              → HasUnchosenLeaf s en chosen (types_at js (h y))
          by None e o = elim o [ ]
          by (Some x) e o =
              subst (HasUnchosenLeaf s en chosen) (sym (ap types_in e) ∙ types_to y x e) o

      leaf_back : (w : ℕ) → HasUnchosenLeaf s en chosen (types_at js w)
          → From h w (λ y. HasUnchosenLeaf s en chosen (types_at is y))
      leaf_back w o = by (instance_at js w) refl o
        where
          by : (a : Option Instance) → instance_at js w ≡ a → HasUnchosenLeaf s en chosen (types_in a)
              → From h w (λ y. HasUnchosenLeaf s en chosen (types_at is y))
          by None e o = elim o [ ]
          by (Some j) e o =
              let known = at_name w js j e in
              let x = to_instance j known.0 in (
                x.0.name,
                subst (HasUnchosenLeaf s en chosen)
                    (sym (ap types_in (at_own_name x.0 is distinct x.1.here) ∙ x.1.led.types)) o,
                x.1.name ∙ known.1,
              )

  types_back : (w : ℕ) (n : Name) → IsTrue (is_listed n (types_at js w)) → From h w (λ y. IsTrue (is_listed n (types_at is y)))
  types_back w n o = by (instance_at js w) refl o
    where
      by : (a : Option Instance) → instance_at js w ≡ a → IsTrue (is_listed n (types_in a))
          → From h w (λ y. IsTrue (is_listed n (types_at is y)))
      by None e o = absurd (false≢true o)
      by (Some j) e o =
          let known = at_name w js j e in
          let x = to_instance j known.0 in (
            x.0.name,
            subst (λ ts. IsTrue (is_listed n ts))
                (sym (ap types_in (at_own_name x.0 is distinct x.1.here) ∙ x.1.led.types)) o,
            x.1.name ∙ known.1,
          )

  types_led : (y : ℕ) (n : Name) → IsTrue (is_listed n (types_at is y)) → IsTrue (is_listed n (types_at js (h y)))
  types_led y n o = by (instance_at is y) refl o
    where
      by : (a : Option Instance) → instance_at is y ≡ a → IsTrue (is_listed n (types_in a))
          → IsTrue (is_listed n (types_at js (h y)))
      by None e o = absurd (false≢true o)
      by (Some x) e o = subst (λ ts. IsTrue (is_listed n ts)) (sym (ap types_in e) ∙ types_to y x e) o

  -- an instance of the rule's entity has y in its key
  abbrev HoldsInKey : ℕ → UniqueRule → Instance → Type 0
  HoldsInKey y u x = IsTrue (is_listed u.entity x.types) × OneOf (λ (p : Place). OccursAt y (slot_at x.slots p)) u.places

  key_led : (y : ℕ) (u : UniqueRule) → IsInKey is y u → IsInKey js (h y) u
  key_led y u (inl o) = inl (types_led y u.entity o)
  key_led y u (inr o) =
      let i = found (HoldsInKey y u) is o in
      let z = of_instance i.0 i.1 in
      let p = found (λ (p : Place). OccursAt y (slot_at i.0.slots p)) u.places i.2.1 in
      inr (one_is (HoldsInKey (h y) u) z.0 js z.1.there (
        subst (λ ts. IsTrue (is_listed u.entity ts)) z.1.led.types i.2.0,
        one_is (λ (p : Place). OccursAt (h y) (slot_at z.0.slots p)) p.0 u.places p.1
            (occurs_at_led i.0 z.0 z.1 p.0 y p.2),
      ))

  key_back : (w : ℕ) (u : UniqueRule) → IsInKey js w u → From h w (λ y. IsInKey is y u)
  key_back w u (inl o) = let p = types_back w u.entity o in (p.0, inl p.1, p.2)
  key_back w u (inr o) =
      let j = found (HoldsInKey w u) js o in
      let x = to_instance j.0 j.1 in
      let p = found (λ (p : Place). OccursAt w (slot_at j.0.slots p)) u.places j.2.1 in
      let a = occurs_at_back x.0 j.0 x.1 p.0 w p.2 in (
        a.0,
        inr (one_is (HoldsInKey a.0 u) x.0 is x.1.here (
          subst (λ ts. IsTrue (is_listed u.entity ts)) (sym x.1.led.types) j.2.0,
          one_is (λ (p : Place). OccursAt a.0 (slot_at x.0.slots p)) p.0 u.places p.1 a.1,
        )),
        a.2,
      )

  abbrev Holds : List Instance → ℕ → InverseAttribute → Instance → Instance → Type 0
  Holds ks y i x z = RefersByInverse i x z × ((x.name ≡ y) ⊎ (z.name ≡ y))

  side_led : (y : ℕ) (i : InverseAttribute) → IsInverseSide is y i → IsInverseSide js (h y) i
  side_led y i o =
      let x = found (λ (x : Instance). OneOf (λ (z : Instance). Holds is y i x z) is) is o in
      let z = found (λ (z : Instance). Holds is y i x.0 z) is x.2 in
      let a = of_instance x.0 x.1 in
      let b = of_instance z.0 z.1 in
      let refers : RefersByInverse i a.0 b.0 = (
        subst (λ ts. IsTrue (is_listed i.referrer ts)) a.1.led.types z.2.0.0,
        subst (λ n. OccursAt n (slot_at a.0.slots i.inverted)) b.1.name
            (occurs_at_led x.0 a.0 a.1 i.inverted z.0.name z.2.0.1),
        subst (λ ts. IsTrue (is_listed i.entity ts)) b.1.led.types z.2.0.2,
      ) in
      one_is (λ (x : Instance). OneOf (λ (z : Instance). Holds js (h y) i x z) js) a.0 js a.1.there
      (one_is (λ (z : Instance). Holds js (h y) i a.0 z) b.0 js b.1.there (
        refers,
        either (λ e. sym a.1.name ∙ ap h e) (λ e. sym b.1.name ∙ ap h e) z.2.1,
      ))

  side_back : (w : ℕ) (i : InverseAttribute) → IsInverseSide js w i → From h w (λ y. IsInverseSide is y i)
  side_back w i o =
      let c = found (λ (x : Instance). OneOf (λ (z : Instance). Holds js w i x z) js) js o in
      let e = found (λ (z : Instance). Holds js w i c.0 z) js c.2 in
      let x = to_instance c.0 c.1 in
      let a = occurs_at_back x.0 c.0 x.1 i.inverted e.0.name e.2.0.1 in
      let named = named_at x.0 x.1.here i.inverted a.0 a.1 in
      let z = led_at a.0 named.0 named.1 in
      let known = at_name a.0 is named.0 named.1 in
      let same : z.0 ≡ e.0 = one_instance (sym (at_own_name z.0 js distinct_there z.1.there)
      ∙ ap (instance_at js) (sym z.1.name ∙ ap h known.1 ∙ a.2) ∙ at_own_name e.0 js distinct_there e.1) in
      let types : named.0.types ≡ e.0.types = z.1.led.types ∙ ap (λ (k : Instance). k.types) same in
      let refers : RefersByInverse i x.0 named.0 = (
        subst (λ ts. IsTrue (is_listed i.referrer ts)) (sym x.1.led.types) e.2.0.0,
        subst (λ n. OccursAt n (slot_at x.0.slots i.inverted)) (sym known.1) a.1,
        subst (λ ts. IsTrue (is_listed i.entity ts)) (sym types) e.2.0.2,
      ) in
      let side : (y : ℕ) → (x.0.name ≡ y) ⊎ (named.0.name ≡ y) → IsInverseSide is y i =
      λ y own. one_is (λ (x : Instance). OneOf (λ (z : Instance). Holds is y i x z) is) x.0 is x.1.here
      (one_is (λ (z : Instance). Holds is y i x.0 z) named.0 is known.0 (refers, own)) in
      by x.0 named.0 c.0.name e.0.name side x.1.name (ap h known.1 ∙ a.2) e.2.1
    where
      by : (x z : Instance) (n m : ℕ) → ((y : ℕ) → (x.name ≡ y) ⊎ (z.name ≡ y) → IsInverseSide is y i)
          → h x.name ≡ n → h z.name ≡ m → (n ≡ w) ⊎ (m ≡ w) → From h w (λ y. IsInverseSide is y i)
      by x z n m side p q (inl e) = (x.name, side x.name (inl refl), p ∙ e)
      by x z n m side p q (inr e) = (z.name, side z.name (inr refl), q ∙ e)

  some_led : {A : Type 0} (P Q : A → Type 0) → ((a : A) → P a → Q a) → (xs : List A) → OneOf P xs → OneOf Q xs
  some_led P Q f xs o = let a = found P xs o in one_is Q a.0 xs a.1 (f a.0 a.2)

  module _ (s : Schema) (d : Domain) (en : Entities) (rules : Rules) (chosen : MergeOptions) where
    elsewhere_led : (y : ℕ) → IsPinnedElsewhere s d en rules chosen is y
        → IsPinnedElsewhere s d en rules chosen js (h y)
    elsewhere_led y (inl o) = inl (leaf_led s d en chosen.entities y o)
    elsewhere_led y (inr (inl o)) = inr (inl (bags_led s d en chosen.in_sets y o))
    elsewhere_led y (inr (inr (inl o))) =
        inr (inr (inl (some_led (IsInKey is y) (IsInKey js (h y)) (key_led y) rules.uniques o)))
    elsewhere_led y (inr (inr (inr o))) =
        inr (inr (inr (some_led (IsInverseSide is y) (IsInverseSide js (h y)) (side_led y) rules.inverses o)))

    elsewhere_back : (w : ℕ) → IsPinnedElsewhere s d en rules chosen js w
        → From h w (IsPinnedElsewhere s d en rules chosen is)
    elsewhere_back w (inl o) = let p = leaf_back s d en chosen.entities w o in (p.0, inl p.1, p.2)
    elsewhere_back w (inr (inl o)) = let p = bags_back s d en chosen.in_sets w o in (p.0, inr (inl p.1), p.2)
    elsewhere_back w (inr (inr (inl o))) =
        let u = found (IsInKey js w) rules.uniques o in
        let p = key_back w u.0 u.2 in
        (p.0, inr (inr (inl (one_is (IsInKey is p.0) u.0 rules.uniques u.1 p.1))), p.2)
    elsewhere_back w (inr (inr (inr o))) =
        let i = found (IsInverseSide js w) rules.inverses o in
        let p = side_back w i.0 i.2 in
        (p.0, inr (inr (inr (one_is (IsInverseSide is p.0) i.0 rules.inverses i.1 p.1))), p.2)

    -- what is pinned by the weak rules is led to what is pinned by them
    pub weak_led : (y : ℕ) → IsWeaklyPinned s d en rules chosen is y → IsWeaklyPinned s d en rules chosen js (h y)
    weak_led y (inl o) = inl (elsewhere_led y o)
    weak_led y (inr o) = inr (inside_led s d en y o)

    -- what the weak rules pin in the image comes from what they pin
    pub weak_back : (w : ℕ) → IsWeaklyPinned s d en rules chosen js w → From h w (IsWeaklyPinned s d en rules chosen is)
    weak_back w (inl o) = let p = elsewhere_back w o in (p.0, inl p.1, p.2)
    weak_back w (inr o) = let p = inside_back s d en w o in (p.0, inr p.1, p.2)
