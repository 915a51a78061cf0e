-- The values of inverse attributes are led along, where those on either side of them are told apart.
use Rattle.std.specs.Prelude.{◌≡◌, ℕ, zero, suc, ◌+◌, ◌==◌, Bool, IsTrue, true, false, cond, List, [], ◌∷◌, map, flat_map, Option, Some, None, ◌⊎◌}
use Rattle.std.specs.List.{IsDistinct, repeat}
use Rattle.std.proofs.Common.{refl, ap, sym, subst, ◌∙◌, inl, inr, arith, eqb-true, eq-eqb}
use Rattle.step_values.specs.Values as values
use Rattle.step_values.specs.Values.{Value, leaf, reference, typed, sequence, bag, Values, none, more, Agree, AgreeEach}
use Rattle.step_values.specs.References.{renamed, renamed_each}
use Rattle.step_values.proofs.Crowds.{by_names}
use Rattle.schema_semantics.specs.Names.{OneOf, Among}
use Rattle.schema_semantics.proofs.Lists.{every-at, among-map, from-flat, from-map}
use Rattle.conformance.specs.ParameterFits.{is_listed}
use Rattle.conformance.specs.Populations.{Instance, instance_at, slot_at, types_in}
use Rattle.conformance.specs.SeparatingMaps.{Occurs, OccursIn}
use Rattle.conformance.specs.Images.{IsLed}
use Rattle.conformance.specs.Rules.{InverseAttribute}
use Rattle.conformance.specs.Referrers.{times, times_in, times_at, references, holds, held, inverse_value}
use Rattle.conformance.specs.Pins.{OccursAt, RefersByInverse, IsInverseSide}
use Rattle.conformance.specs.RuleLaws.{names}
use Rattle.conformance.proofs.Standing.{one_is}
use Rattle.conformance.proofs.Holding.{inverse_sides_are_held}
use Rattle.conformance.proofs.There.{at}
use Rattle.express_logic.specs.Data as data_of
use Rattle.conformance.specs.Meanings.{instance_data}
use Rattle.conformance.specs.AlikeValues.{unchanged, AlikeEach, AlikeIn}
use Rattle.conformance.specs.MeaningImages.{IsInstanceName, LeadsBy, HasPlacesOnce, IsLedTo}
use Rattle.conformance.specs.MeaningLaws.{IsOnto, InverseValuesAreLed}
use Rattle.conformance.proofs.MeaningOneness.{one_truth}
use Rattle.conformance.proofs.Led.{at_name, is_name, AgreeAt, slots_led, refers}
use Rattle.conformance.proofs.Counted.{weight, count, count_absent, count_map, count_nowhere, count_flat, reordered}

-- how often an instance is referred to
times_reordered : (y : ℕ) {us ws : Values} → values.IsReordering us ws → times_in y us ≡ times_in y ws
times_reordered y (values.unchanged vs) = refl
times_reordered y (values.kept v r) = ap (λ n. times y v + n) (times_reordered y r)
times_reordered y (values.swapped v w vs) = omega arith
times_reordered y (values.joined r q) = times_reordered y r ∙ times_reordered y q

module _ (h : ℕ → ℕ) (y : ℕ) where
  -- h leads nothing else that is referred to where it leads y
  abbrev IsAlone : Value → Type 0
  IsAlone v = (z : ℕ) → Occurs z v → h z ≡ h y → z ≡ y

  abbrev IsAloneIn : Values → Type 0
  IsAloneIn vs = (z : ℕ) → OccursIn z vs → h z ≡ h y → z ≡ y

  same_one : (u z : ℕ) → (h u == z) ≡ true → (h u ≡ h y → u ≡ y) → (h y == z) ≡ (y == u)
  same_one u z e only = one_truth (h y == z) (y == u) forth back
    where
      to : h u ≡ z
      to = eqb-true (h u) z e

      forth : IsTrue (h y == z) → IsTrue (y == u)
      forth t = eq-eqb y u (sym (only (to ∙ sym (eqb-true (h y) z t))))

      back : IsTrue (y == u) → IsTrue (h y == z)
      back t = eq-eqb (h y) z (ap h (eqb-true y u t) ∙ to)

  mutual
    times_led : (v w : Value) → IsAlone v → Agree (◌==◌) (renamed h v) w → times (h y) w ≡ times y v
    times_led (leaf a) (leaf c) only e = refl
    times_led (reference u) (reference z) only e = ap weight (same_one u z e (only u refl))
    times_led (typed n v) (typed m w) only e = times_led v w only e.1
    times_led (sequence vs) (sequence ws) only e = times_led_in vs ws only e
    times_led (bag vs) (bag ws) only e =
        let m = by_names (renamed_each h vs) ws e in sym (times_reordered (h y) m.1) ∙ times_led_in vs m.0 only m.2
    times_led _ _ only e = absurd e

    times_led_in : (vs ws : Values) → IsAloneIn vs → AgreeEach (◌==◌) (renamed_each h vs) ws
        → times_in (h y) ws ≡ times_in y vs
    times_led_in none none only e = refl
    times_led_in (more v vs) (more w ws) only e =
        let first : times (h y) w ≡ times y v = times_led v w (λ z m. only z (inl m)) e.0 in
        let rest : times_in (h y) ws ≡ times_in y vs = times_led_in vs ws (λ z m. only z (inr m)) e.1 in
        omega (arith, first, rest)
    times_led_in _ _ only e = absurd e

-- what an inverse attribute holds
repeated : (n w v : ℕ) → Among v (repeat n (w ∷ [])) → w ≡ v
repeated zero w v m = elim m [ ]
repeated (suc n) w v (inl e) = e
repeated (suc n) w v (inr m) = repeated n w v m

own_name : (i : InverseAttribute) (y : ℕ) (x : Instance) (v : ℕ) → Among v (held i y x) → x.name ≡ v
own_name i y x v m = by (is_listed i.referrer x.types) m
  where
    by : (b : Bool) → Among v (cond b (repeat (holds i.gathering (references x i.inverted y)) (x.name ∷ [])) [])
        → x.name ≡ v
    by true m = repeated (holds i.gathering (references x i.inverted y)) x.name v m
    by false m = elim m [ ]

count_repeated : (n w v : ℕ) → w ≡ v → count w (repeat n (v ∷ [])) ≡ n
count_repeated zero w v e = refl
count_repeated (suc n) w v e =
    let first : weight (w == v) ≡ 1 = ap weight (eq-eqb w v e) in
    let rest : count w (repeat n (v ∷ [])) ≡ n = count_repeated n w v e in
    omega (arith, first, rest)

-- so often the instance itself stands in what it gives
count_held : (i : InverseAttribute) (y : ℕ) (x : Instance)
    → count x.name (held i y x) ≡ cond (is_listed i.referrer x.types) (holds i.gathering (references x i.inverted y)) 0
count_held i y x = by (is_listed i.referrer x.types)
  where
    by : (b : Bool) → count x.name (cond b (repeat (holds i.gathering (references x i.inverted y)) (x.name ∷ [])) [])
        ≡ cond b (holds i.gathering (references x i.inverted y)) 0
    by true = count_repeated (holds i.gathering (references x i.inverted y)) x.name x.name refl
    by false = refl

module _ (is js : List Instance) (h : ℕ → ℕ) (distinct : IsDistinct (◌==◌) (names is))
    (others : IsDistinct (◌==◌) (names js)) (to : IsLedTo is js h) (onto : IsOnto is js h) (i : InverseAttribute)
    (apart : (y z : ℕ) → IsInstanceName is y → IsInverseSide is z i → h y ≡ h z → y ≡ z) where
  -- a reference to an instance of the entity is on a side
  is_side : (x z : Instance) → Among x is → Among z is → RefersByInverse i x z → IsInverseSide is z.name i
  is_side x z m n r =
      one_is (λ (x : Instance). OneOf (λ (u : Instance). RefersByInverse i x u × ((x.name ≡ z.name) ⊎ (u.name ≡ z.name))) is) x
      is m (one_is (λ (u : Instance). RefersByInverse i x u × ((x.name ≡ z.name) ⊎ (u.name ≡ z.name))) z is n (r, inr refl))

  -- an instance that a referrer names beside y isn't led to where y is
  module _ (y : ℕ) (o : Instance) (here : instance_at is y ≡ Some o) (entity : IsTrue (is_listed i.entity o.types)) where
    some_instance : (u v : Instance) → Some u ≡ Some v → u ≡ v
    some_instance u v e = cc

    of_entity : (z : ℕ) (u : Instance) → instance_at is z ≡ Some u → h z ≡ h y → IsTrue (is_listed i.entity u.types)
    of_entity z u there e =
        let a = to.led y o here in
        let b = to.led z u there in
        let same : b.0 ≡ a.0 =
        some_instance b.0 a.0 (sym b.1 ∙ (ap (instance_at js) e ∙ a.1)) in
        subst (λ ts. IsTrue (is_listed i.entity ts))
        (a.2.types ∙ (sym (ap (λ (k : Instance). k.types) same) ∙ sym b.2.types)) entity

    alone_at : (x : Instance) → Among x is → IsTrue (is_listed i.referrer x.types) → (v : Value)
        → slot_at x.slots i.inverted ≡ Some v → IsAlone h y v
    alone_at x m r v q z occurs e =
        let named = at (IsInstanceName is) z v (refers is to.closed x m i.inverted v q) occurs in
        let known = at_name z is named.0 named.1 in
        let there : OccursAt named.0.name (slot_at x.slots i.inverted) =
        subst (OccursAt named.0.name) (sym q) (subst (λ k. Occurs k v) (sym known.1) occurs) in
        let side : IsInverseSide is z i =
        subst (λ k. IsInverseSide is k i) known.1
        (is_side x named.0 m known.0 (r, there, of_entity z named.0 named.1 e)) in
        sym (apart y z (o, here) side (sym e))

    references_led : (x z : Instance) → Among x is → IsLed h x z → IsTrue (is_listed i.referrer x.types)
        → references z i.inverted (h y) ≡ references x i.inverted y
    references_led x z m l r =
        by (slot_at x.slots i.inverted) (slot_at z.slots i.inverted) refl
        (slots_led h x z (every-at HasPlacesOnce x is to.once m) l i.inverted)
      where
        by : (p q : Option Value) → slot_at x.slots i.inverted ≡ p → AgreeAt h p q → times_at (h y) q ≡ times_at y p
        by None None e a = refl
        by (Some v) (Some w) e a = times_led h y v w (alone_at x m r v e) a
        by None (Some w) e a = absurd a
        by (Some v) None e a = absurd a

    given : (x z : Instance) → Among x is → IsLed h x z
        → cond (is_listed i.referrer z.types) (holds i.gathering (references z i.inverted (h y))) 0
        ≡ cond (is_listed i.referrer x.types) (holds i.gathering (references x i.inverted y)) 0
    given x z m l =
        subst (λ ts. cond (is_listed i.referrer ts) (holds i.gathering (references z i.inverted (h y))) 0
        ≡ cond (is_listed i.referrer x.types) (holds i.gathering (references x i.inverted y)) 0) l.types
        (by (is_listed i.referrer x.types) refl)
      where
        by : (b : Bool) → is_listed i.referrer x.types ≡ b
            → cond b (holds i.gathering (references z i.inverted (h y))) 0
            ≡ cond b (holds i.gathering (references x i.inverted y)) 0
        by true e = ap (holds i.gathering) (references_led x z m l e)
        by false e = refl

    abbrev before : List ℕ
    before = flat_map (held i y) is

    abbrev after : List ℕ
    after = flat_map (held i (h y)) js

    value_is : inverse_value is i y ≡ before
    value_is =
        ap (λ (b : Bool). cond b (flat_map (held i y) is) [])
        (ap (λ q. is_listed i.entity (types_in q)) here ∙ entity)

    -- who refers is on a side
    side_of : (v : ℕ) → Among v before → IsInverseSide is v i
    side_of v m = (inverse_sides_are_held is i v distinct).1 (y, inr (subst (Among v) (sym value_is) m))

    name_of : (v : ℕ) → Among v before → IsInstanceName is v
    name_of v m =
        let from = from-flat (held i y) v is m in
        is_name v is (subst (λ n. Among n (names is)) (own_name i y from.0 v from.2)
        (among-map (λ (x : Instance). x.name) from.0 is from.1))

    -- an instance of js, by the one that is led to it
    counted_at : (k : ℕ) (x z : Instance) → instance_at is k ≡ Some x → instance_at js (h k) ≡ Some z
        → count (h k) (map h before) ≡ count (h k) after
    counted_at k x z e f =
        let known = at_name k is x e in
        let found = at_name (h k) js z f in
        let l = led k x z e f in
        let left : count (h k) (map h before) ≡ count k before = count_map h (h k) k before pointwise in
        let mid : count k before ≡ cond (is_listed i.referrer x.types) (holds i.gathering (references x i.inverted y)) 0 =
        subst (λ n. count n before ≡ cond (is_listed i.referrer x.types) (holds i.gathering (references x i.inverted y)) 0)
        known.1 (count_flat (held i y) (own_name i y) x is distinct known.0 ∙ count_held i y x) in
        let right : count (h k) after
        ≡ cond (is_listed i.referrer z.types) (holds i.gathering (references z i.inverted (h y))) 0 =
        subst (λ n. count n after
        ≡ cond (is_listed i.referrer z.types) (holds i.gathering (references z i.inverted (h y))) 0) found.1
        (count_flat (held i (h y)) (own_name i (h y)) z js others found.0 ∙ count_held i (h y) z) in
        left ∙ (mid ∙ (sym (given x z known.0 l) ∙ sym right))
      where
        led : (k : ℕ) (x z : Instance) → instance_at is k ≡ Some x → instance_at js (h k) ≡ Some z → IsLed h x z
        led k x z e f =
            let a = to.led k x e in
            subst (λ (u : Instance). IsLed h x u) (some_instance a.0 z (sym a.1 ∙ f)) a.2

        pointwise : (v : ℕ) → Among v before → (h k == h v) ≡ (k == v)
        pointwise v m =
            one_truth (h k == h v) (k == v)
            (λ t. eq-eqb k v (apart k v (x, e) (side_of v m) (eqb-true (h k) (h v) t)))
            (λ t. eq-eqb (h k) (h v) (ap h (eqb-true k v t)))

    counted : (w : ℕ) → count w (map h before) ≡ count w after
    counted w = by (instance_at js w) refl
      where
        is_some : (z : Instance) → instance_at js w ≡ Some z → count w (map h before) ≡ count w after
        is_some z f =
            let known = at_name w js z f in
            let from = onto z known.0 in
            let same : h from.0 ≡ w = sym (at_name (h from.0) js z from.3).1 ∙ known.1 in
            subst (λ n. count n (map h before) ≡ count n after) same (counted_at from.0 from.1 z from.2 from.3)

        -- no name of js
        nowhere : instance_at js w ≡ None → (x : Instance) → Among x js → x.name ≡ w → ⊥
        nowhere f x m e =
            let named = is_name w js (subst (λ n. Among n (names js)) e
            (among-map (λ (x : Instance). x.name) x js m)) in
            let q : None ≡ Some named.0 = sym f ∙ named.1 in
            absurd (cc)

        left : instance_at js w ≡ None → Among w (map h before) → ⊥
        left f m =
            let from = from-map h before w m in
            let known = name_of from.0 from.1 in
            let a = to.led from.0 known.0 known.1 in
            let q : None ≡ Some a.0 = sym f ∙ (ap (instance_at js) (sym from.2) ∙ a.1) in
            absurd (cc)

        by : (q : Option Instance) → instance_at js w ≡ q → count w (map h before) ≡ count w after
        by (Some z) f = is_some z f
        by None f =
            count_absent w (map h before) (left f)
            ∙ sym (count_nowhere (held i (h y)) (own_name i (h y)) w js (nowhere f))

    each_led : (vs : List ℕ) → ((v : ℕ) → Among v vs → IsInstanceName is v)
        → AlikeEach (LeadsBy is h) (instance_data vs) (instance_data (map h vs))
    each_led [] f = tt
    each_led (v ∷ vs) f = ((f v (inl refl), refl), each_led vs (λ u m. f u (inr m)))

    after_is : inverse_value js i (h y) ≡ after
    after_is =
        let a = to.led y o here in
        ap (λ (b : Bool). cond b (flat_map (held i (h y)) js) [])
        (ap (λ q. is_listed i.entity (types_in q)) a.1 ∙ (sym (ap (is_listed i.entity) a.2.types) ∙ entity))

    values_led : AlikeIn (LeadsBy is h) data_of.bag (instance_data (inverse_value is i y))
        (instance_data (inverse_value js i (h y)))
    values_led =
        subst (λ vs. AlikeIn (LeadsBy is h) data_of.bag (instance_data vs) (instance_data (inverse_value js i (h y))))
        (sym value_is)
        (subst (λ vs. AlikeIn (LeadsBy is h) data_of.bag (instance_data before) (instance_data vs)) (sym after_is)
        (instance_data (map h before), each_led before name_of, reordered (map h before) after counted))

  -- an instance of another entity has none
  none_led : (y : ℕ) (o : Instance) → instance_at is y ≡ Some o → is_listed i.entity o.types ≡ false
      → AlikeIn (LeadsBy is h) data_of.bag (instance_data (inverse_value is i y)) (instance_data (inverse_value js i (h y)))
  none_led y o here other =
      subst (λ vs. AlikeIn (LeadsBy is h) data_of.bag (instance_data vs) (instance_data (inverse_value js i (h y)))) (sym first)
      (subst (λ vs. AlikeIn (LeadsBy is h) data_of.bag (instance_data []) (instance_data vs)) (sym second)
      (data_of.none, tt, unchanged data_of.none))
    where
      first : inverse_value is i y ≡ []
      first =
          ap (λ (b : Bool). cond b (flat_map (held i y) is) [])
          (ap (λ q. is_listed i.entity (types_in q)) here ∙ other)

      second : inverse_value js i (h y) ≡ []
      second =
          let a = to.led y o here in
          ap (λ (b : Bool). cond b (flat_map (held i (h y)) js) [])
          (ap (λ q. is_listed i.entity (types_in q)) a.1 ∙ (sym (ap (is_listed i.entity) a.2.types) ∙ other))

  all_led : (y : ℕ) → IsInstanceName is y
      → AlikeIn (LeadsBy is h) data_of.bag (instance_data (inverse_value is i y)) (instance_data (inverse_value js i (h y)))
  all_led y (o, here) = by (is_listed i.entity o.types) refl
    where
      by : (b : Bool) → is_listed i.entity o.types ≡ b
          → AlikeIn (LeadsBy is h) data_of.bag (instance_data (inverse_value is i y)) (instance_data (inverse_value js i (h y)))
      by true e = values_led y o here e
      by false e = none_led y o here e

pub inverse_values_are_led : InverseValuesAreLed
inverse_values_are_led inverses is js h distinct others to onto apart i m y named =
    all_led is js h distinct others to onto i (λ u z n side e. apart u z n (one_is (IsInverseSide is z) i inverses m
    side) e)
    y named
