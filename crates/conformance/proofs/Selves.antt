-- The values for which a rule is tried are led along.
use Rattle.std.specs.Prelude.{◌≡◌, ℕ, ◌==◌, Bool, true, false, cond, List, [], ◌∷◌, ◌++◌, flat_map, Option, Some, None, ◌⊎◌}
use Rattle.std.proofs.Common.{refl, ap, sym, subst, ◌∙◌, inl, inr}
use Rattle.step_values.specs.Leaves as leaves
use Rattle.step_values.specs.Leaves.{Leaf}
use Rattle.step_values.specs.Values as values
use Rattle.step_values.specs.Values.{Value, leaf, reference, typed, sequence, bag, Values, none, more, Agree, AgreeEach}
use Rattle.step_values.specs.References.{renamed, renamed_each, EachReference, EachReferenceOf}
use Rattle.step_values.proofs.Crowds.{by_names}
use Rattle.express_syntax.specs.Schemas.{Schema, DataType, named}
use Rattle.schema_semantics.specs.Names.{Name, Among}
use Rattle.schema_semantics.specs.Attributes.{Place}
use Rattle.schema_semantics.proofs.Lists.{among-left, among-right, among-either, among-flat, from-flat, every-at}
use Rattle.conformance.specs.Bases.{Base, Domain, base}
use Rattle.conformance.specs.ParameterFits.{is_listed, element}
use Rattle.conformance.specs.Entities.{Entities, data_types}
use Rattle.conformance.specs.Populations.{Slot, Instance, instance_at, slot_at}
use Rattle.conformance.specs.Images.{IsLed}
use Rattle.express_logic.specs.Data as data_of
use Rattle.express_logic.specs.Data.{Datum}
use Rattle.conformance.specs.Values.{datum, first_declared}
use Rattle.conformance.specs.Attributes.{Attributes}
use Rattle.conformance.specs.DomainRules.{Holder, of_entity, of_type}
use Rattle.conformance.specs.DomainFindings.{element_in, is_of, itself, values_of, each_of, in_slot, selves}
use Rattle.conformance.specs.AlikeValues.{Alike}
use Rattle.conformance.specs.MeaningImages.{IsInstanceName, LeadsBy, HasPlacesOnce, IsLedTo}
use Rattle.conformance.proofs.Led.{at_name, at_place, place_at, AgreeAt, slots_led, datum_led, refers}

-- each of either list is alike to one of the other
pub record SameValues (led : ℕ → ℕ → Type 0) (es fs : List Datum) : Type 0 where
  pub forth : (e : Datum) → Among e es → (f : Datum) × Among f fs × Alike led e f
  pub back : (f : Datum) → Among f fs → (e : Datum) × Among e es × Alike led e f

module _ (led : ℕ → ℕ → Type 0) where
  same_none : SameValues led [] []
  same_none = record { forth = λ e m. elim m [ ]; back = λ f m. elim m [ ] }

  same_one : (e f : Datum) → Alike led e f → SameValues led (e ∷ []) (f ∷ [])
  same_one e f h = record { forth = to; back = from }
    where
      to : (x : Datum) → Among x (e ∷ []) → (y : Datum) × Among y (f ∷ []) × Alike led x y
      to x (inl q) = (f, inl refl, subst (λ w. Alike led w f) q h)
      to x (inr m) = elim m [ ]

      from : (y : Datum) → Among y (f ∷ []) → (x : Datum) × Among x (e ∷ []) × Alike led x y
      from y (inl q) = (e, inl refl, subst (λ w. Alike led e w) q h)
      from y (inr m) = elim m [ ]

  same_both : (es fs gs ks : List Datum) → SameValues led es fs → SameValues led gs ks
      → SameValues led (es ++ gs) (fs ++ ks)
  same_both es fs gs ks p q = record { forth = to; back = from }
    where
      to_by : (x : Datum) → Among x es ⊎ Among x gs → (y : Datum) × Among y (fs ++ ks) × Alike led x y
      to_by x (inl m) = let r = p.forth x m in (r.0, among-left r.0 fs ks r.1, r.2)
      to_by x (inr m) = let r = q.forth x m in (r.0, among-right r.0 fs ks r.1, r.2)

      to : (x : Datum) → Among x (es ++ gs) → (y : Datum) × Among y (fs ++ ks) × Alike led x y
      to x m = to_by x (among-either x es gs m)

      from_by : (y : Datum) → Among y fs ⊎ Among y ks → (x : Datum) × Among x (es ++ gs) × Alike led x y
      from_by y (inl m) = let r = p.back y m in (r.0, among-left r.0 es gs r.1, r.2)
      from_by y (inr m) = let r = q.back y m in (r.0, among-right r.0 es gs r.1, r.2)

      from : (y : Datum) → Among y (fs ++ ks) → (x : Datum) × Among x (es ++ gs) × Alike led x y
      from y m = from_by y (among-either y fs ks m)

  same_if : (b : Bool) (es fs : List Datum) → SameValues led es fs → SameValues led (cond b es []) (cond b fs [])
  same_if true es fs h = h
  same_if false es fs h = same_none

  -- where the second list has the same members as another
  same_members : (es us fs : List Datum) → SameValues led es us → ((x : Datum) → Among x us → Among x fs)
      → ((x : Datum) → Among x fs → Among x us) → SameValues led es fs
  same_members es us fs h f g = record {
    forth = λ e m. let r = h.forth e m in (r.0, f r.0 r.1, r.2);
    back = λ y m. h.back y (g y m);
  }

-- members of lists that are put together
has_both : (us bs cs ds : List Datum) → ((x : Datum) → Among x us → Among x bs)
    → ((x : Datum) → Among x cs → Among x ds) → (x : Datum) → Among x (us ++ cs) → Among x (bs ++ ds)
has_both us bs cs ds f g x m = by (among-either x us cs m)
  where
    by : Among x us ⊎ Among x cs → Among x (bs ++ ds)
    by (inl k) = among-left x bs ds (f x k)
    by (inr k) = among-right x bs ds (g x k)

has_swapped : (us bs cs : List Datum) (x : Datum) → Among x (us ++ (bs ++ cs)) → Among x (bs ++ (us ++ cs))
has_swapped us bs cs x m = by (among-either x us (bs ++ cs) m)
  where
    late : Among x bs ⊎ Among x cs → Among x (bs ++ (us ++ cs))
    late (inl k) = among-left x bs (us ++ cs) k
    late (inr k) = among-right x bs (us ++ cs) (among-right x us cs k)

    by : Among x us ⊎ Among x (bs ++ cs) → Among x (bs ++ (us ++ cs))
    by (inl k) = among-right x bs (us ++ cs) (among-left x us cs k)
    by (inr k) = late (among-either x bs cs k)

module _ (s : Schema) (d : Domain) (en : Entities) (attributes : Attributes) (t : Name) where
  -- elements in another order
  reordered : (k : DataType) (b : Base) {us ws : Values} → values.IsReordering us ws → (x : Datum)
      → Among x (each_of s d en attributes t k b us) → Among x (each_of s d en attributes t k b ws)
  reordered k b (values.unchanged vs) x m = m
  reordered k b (values.kept {vs = us} {ws = ws} v r) x m =
      has_both (values_of s d en attributes t k b v) (values_of s d en attributes t k b v)
      (each_of s d en attributes t k b us) (each_of s d en attributes t k b ws) (λ y n. n) (reordered k b r) x m
  reordered k b (values.swapped v w vs) x m =
      has_swapped (values_of s d en attributes t k b v) (values_of s d en attributes t k b w)
      (each_of s d en attributes t k b vs) x m
  reordered k b (values.joined r q) x m = reordered k b q x (reordered k b r x m)

  reordered_back : (k : DataType) (b : Base) {us ws : Values} → values.IsReordering us ws → (x : Datum)
      → Among x (each_of s d en attributes t k b ws) → Among x (each_of s d en attributes t k b us)
  reordered_back k b (values.unchanged vs) x m = m
  reordered_back k b (values.kept {vs = us} {ws = ws} v r) x m =
      has_both (values_of s d en attributes t k b v) (values_of s d en attributes t k b v)
      (each_of s d en attributes t k b ws) (each_of s d en attributes t k b us) (λ y n. n) (reordered_back k b r) x m
  reordered_back k b (values.swapped v w vs) x m =
      has_swapped (values_of s d en attributes t k b w) (values_of s d en attributes t k b v)
      (each_of s d en attributes t k b vs) x m
  reordered_back k b (values.joined r q) x m = reordered_back k b r x (reordered_back k b q x m)

  module _ (is : List Instance) (h : ℕ → ℕ) where
    itself_same : (k : DataType) (b : Base) (v w : Value) → EachReference (IsInstanceName is) v
        → Agree (◌==◌) (renamed h v) w
        → SameValues (LeadsBy is h) (itself s d en attributes t k b v) (itself s d en attributes t k b w)
    itself_same k b v w r e =
        same_if (LeadsBy is h) (is_of s d en attributes t k) (datum s d b v ∷ []) (datum s d b w ∷ [])
        (same_one (LeadsBy is h) (datum s d b v) (datum s d b w) (datum_led s d is h b v w r e))

    leaf_values : (k : DataType) (b : Base) (a : Leaf)
        → SameValues (LeadsBy is h) (values_of s d en attributes t k b (leaf a))
        (values_of s d en attributes t k b (leaf a))
    leaf_values k b leaves.unset = same_none (LeadsBy is h)
    leaf_values k b leaves.derived = same_none (LeadsBy is h)
    leaf_values k b (leaves.number z) = itself_same k b (leaf (leaves.number z)) (leaf (leaves.number z)) tt refl
    leaf_values k b (leaves.text z) = itself_same k b (leaf (leaves.text z)) (leaf (leaves.text z)) tt refl
    leaf_values k b (leaves.bits z) = itself_same k b (leaf (leaves.bits z)) (leaf (leaves.bits z)) tt refl
    leaf_values k b (leaves.element z) = itself_same k b (leaf (leaves.element z)) (leaf (leaves.element z)) tt refl

    mutual
      values_same : (k : DataType) (b : Base) (v w : Value) → EachReference (IsInstanceName is) v
          → Agree (◌==◌) (renamed h v) w
          → SameValues (LeadsBy is h) (values_of s d en attributes t k b v) (values_of s d en attributes t k b w)
      values_same k b (leaf a) (leaf c) r e =
          subst (λ c. SameValues (LeadsBy is h) (values_of s d en attributes t k b (leaf a))
          (values_of s d en attributes t k b (leaf c))) e (leaf_values k b a)
      values_same k b (reference y) (reference z) r e = itself_same k b (reference y) (reference z) r e
      values_same k b (typed n v) (typed m w) r e =
          subst (λ m. SameValues (LeadsBy is h) (values_of s d en attributes t (named n) (base d (named n)) v)
          (values_of s d en attributes t (named m) (base d (named m)) w)) e.0
          (values_same (named n) (base d (named n)) v w r e.1)
      values_same k b (sequence vs) (sequence ws) r e =
          same_both (LeadsBy is h) (itself s d en attributes t k b (sequence vs))
          (itself s d en attributes t k b (sequence ws))
          (each_of s d en attributes t (element_in k (base d k)) (element s d b) vs)
          (each_of s d en attributes t (element_in k (base d k)) (element s d b) ws)
          (itself_same k b (sequence vs) (sequence ws) r e)
          (each_same (element_in k (base d k)) (element s d b) vs ws r e)
      values_same k b (bag vs) (bag ws) r e =
          let m = by_names (renamed_each h vs) ws e in
          same_both (LeadsBy is h) (itself s d en attributes t k b (bag vs)) (itself s d en attributes t k b (bag ws))
          (each_of s d en attributes t (element_in k (base d k)) (element s d b) vs)
          (each_of s d en attributes t (element_in k (base d k)) (element s d b) ws)
          (itself_same k b (bag vs) (bag ws) r e)
          (same_members (LeadsBy is h) (each_of s d en attributes t (element_in k (base d k)) (element s d b) vs)
          (each_of s d en attributes t (element_in k (base d k)) (element s d b) m.0)
          (each_of s d en attributes t (element_in k (base d k)) (element s d b) ws)
          (each_same (element_in k (base d k)) (element s d b) vs m.0 r m.2)
          (reordered (element_in k (base d k)) (element s d b) m.1)
          (reordered_back (element_in k (base d k)) (element s d b) m.1))
      values_same k b _ _ r e = absurd e

      each_same : (k : DataType) (b : Base) (vs ws : Values) → EachReferenceOf (IsInstanceName is) vs
          → AgreeEach (◌==◌) (renamed_each h vs) ws
          → SameValues (LeadsBy is h) (each_of s d en attributes t k b vs) (each_of s d en attributes t k b ws)
      each_same k b none none r e = same_none (LeadsBy is h)
      each_same k b (more v vs) (more w ws) r e =
          same_both (LeadsBy is h) (values_of s d en attributes t k b v) (values_of s d en attributes t k b w)
          (each_of s d en attributes t k b vs) (each_of s d en attributes t k b ws) (values_same k b v w r.0 e.0)
          (each_same k b vs ws r.1 e.1)
      each_same k b _ _ r e = absurd e

    kinds_same : (b : Base) (v w : Value) → EachReference (IsInstanceName is) v → Agree (◌==◌) (renamed h v) w
        → (ks : List DataType)
        → SameValues (LeadsBy is h) (flat_map (λ (k : DataType). values_of s d en attributes t k b v) ks)
        (flat_map (λ (k : DataType). values_of s d en attributes t k b w) ks)
    kinds_same b v w r e [] = same_none (LeadsBy is h)
    kinds_same b v w r e (k ∷ ks) =
        same_both (LeadsBy is h) (values_of s d en attributes t k b v) (values_of s d en attributes t k b w)
        (flat_map (λ (k : DataType). values_of s d en attributes t k b v) ks)
        (flat_map (λ (k : DataType). values_of s d en attributes t k b w) ks) (values_same k b v w r e)
        (kinds_same b v w r e ks)

    -- what stands in an attribute
    abbrev in_place : List Name → Place → Value → List Datum
    in_place types p v =
        flat_map (λ (k : DataType). values_of s d en attributes t k (first_declared s d en p) v)
        (data_types s en types p)

    place_same : (types : List Name) (p : Place) (v w : Value) → EachReference (IsInstanceName is) v
        → Agree (◌==◌) (renamed h v) w → SameValues (LeadsBy is h) (in_place types p v) (in_place types p w)
    place_same types p v w r e = kinds_same (first_declared s d en p) v w r e (data_types s en types p)

    module _ (js : List Instance) (to : IsLedTo is js h) (x z : Instance) (m : Among x is) (l : IsLed h x z) where
      slot_refers : (y : Slot) → Among y x.slots → EachReference (IsInstanceName is) y.value
      slot_refers y n =
          refers is to.closed x m y.place y.value
          (place_at y x.slots (every-at HasPlacesOnce x is to.once m) n)

      forth_in : (y : Slot) → Among y x.slots → (e : Datum) → Among e (in_place x.types y.place y.value)
          → (f : Datum) × Among f (flat_map (in_slot s d en attributes t x.types) z.slots) × Alike (LeadsBy is h) e f
      forth_in y n e k =
          by (slot_at x.slots y.place) (slot_at z.slots y.place) (place_at y x.slots once n) refl
          (slots_led h x z once l y.place)
        where
          once : HasPlacesOnce x
          once = every-at HasPlacesOnce x is to.once m

          some : (w v : Value) → Some w ≡ Some v → w ≡ v
          some w v q = cc

          at : (w : Value) → slot_at z.slots y.place ≡ Some w → Agree (◌==◌) (renamed h y.value) w
              → (f : Datum) × Among f (flat_map (in_slot s d en attributes t x.types) z.slots)
              × Alike (LeadsBy is h) e f
          at w q a =
              let there = at_place y.place z.slots w q in
              let found = (place_same x.types y.place y.value w (slot_refers y n) a).forth e k in (
                found.0,
                among-flat (in_slot s d en attributes t x.types) there.0 found.0 z.slots there.1
                    (subst (λ (p : Place). Among found.0 (in_place x.types p there.0.value)) (sym there.2)
                    (subst (λ u. Among found.0 (in_place x.types y.place u)) (sym there.3) found.1)),
                found.2,
              )

          by : (o q : Option Value) → o ≡ Some y.value → slot_at z.slots y.place ≡ q → AgreeAt h o q
              → (f : Datum) × Among f (flat_map (in_slot s d en attributes t x.types) z.slots)
              × Alike (LeadsBy is h) e f
          by (Some v) (Some w) g q a =
              at w q (subst (λ u. Agree (◌==◌) (renamed h u) w) (some v y.value g) a)
          by None None g q a = absurd (cc)
          by (Some v) None g q a = absurd a
          by None (Some w) g q a = absurd a

      back_in : (y : Slot) → Among y z.slots → (f : Datum) → Among f (in_place x.types y.place y.value)
          → (e : Datum) × Among e (flat_map (in_slot s d en attributes t x.types) x.slots) × Alike (LeadsBy is h) e f
      back_in y n f k =
          let here = l.values y n in
          let found = (place_same x.types y.place here.0.value y.value (slot_refers here.0 here.1) here.3).back f k in (
            found.0,
            among-flat (in_slot s d en attributes t x.types) here.0 found.0 x.slots here.1
                (subst (λ (p : Place). Among found.0 (in_place x.types p here.0.value)) (sym here.2) found.1),
            found.2,
          )

      slots_same : SameValues (LeadsBy is h) (flat_map (in_slot s d en attributes t x.types) x.slots)
          (flat_map (in_slot s d en attributes t x.types) z.slots)
      slots_same = record { forth = to_other; back = from_other }
        where
          to_other : (e : Datum) → Among e (flat_map (in_slot s d en attributes t x.types) x.slots)
              → (f : Datum) × Among f (flat_map (in_slot s d en attributes t x.types) z.slots)
              × Alike (LeadsBy is h) e f
          to_other e n =
              let at = from-flat (in_slot s d en attributes t x.types) e x.slots n in forth_in at.0 at.1 e at.2

          from_other : (f : Datum) → Among f (flat_map (in_slot s d en attributes t x.types) z.slots)
              → (e : Datum) × Among e (flat_map (in_slot s d en attributes t x.types) x.slots)
              × Alike (LeadsBy is h) e f
          from_other f n =
              let at = from-flat (in_slot s d en attributes t x.types) f z.slots n in back_in at.0 at.1 f at.2

-- the values of SELF
module _ (s : Schema) (d : Domain) (en : Entities) (attributes : Attributes) (is js : List Instance) (h : ℕ → ℕ)
    (to : IsLedTo is js h) (y : ℕ) (x z : Instance) (at : instance_at is y ≡ Some x)
    (there : instance_at js (h y) ≡ Some z) (l : IsLed h x z) where
  led_name : LeadsBy is h x.name z.name
  led_name =
      let here = at_name y is x at in
      let other = at_name (h y) js z there in
      ((x, subst (λ u. instance_at is u ≡ Some x) (sym here.1) at), ap h here.1 ∙ sym other.1)

  pub selves_same : (holder : Holder)
      → SameValues (LeadsBy is h) (selves s d en attributes x holder) (selves s d en attributes z holder)
  selves_same (of_entity e) =
      subst (λ ts. SameValues (LeadsBy is h) (cond (is_listed e x.types) (data_of.instance x.name ∷ []) [])
      (cond (is_listed e ts) (data_of.instance z.name ∷ []) [])) l.types
      (same_if (LeadsBy is h) (is_listed e x.types) (data_of.instance x.name ∷ []) (data_of.instance z.name ∷ [])
      (same_one (LeadsBy is h) (data_of.instance x.name) (data_of.instance z.name) led_name))
  selves_same (of_type t) =
      subst (λ ts. SameValues (LeadsBy is h) (flat_map (in_slot s d en attributes t x.types) x.slots)
      (flat_map (in_slot s d en attributes t ts) z.slots)) l.types
      (slots_same s d en attributes t is h js to x z (at_name y is x at).0 l)
