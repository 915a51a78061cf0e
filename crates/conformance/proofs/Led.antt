-- Values and attributes of instances that are led along.
use Rattle.std.specs.Prelude.{◌≡◌, ⊤, ℕ, ◌==◌, Bool, true, false, cond, List, [], ◌∷◌, map, Option, Some, None}
use Rattle.std.specs.List.{IsDistinct, AllByRecursion}
use Rattle.std.proofs.Common.{refl, ap, sym, subst, ◌∙◌, inl, inr, eqb-true, eq-eqb}
use Rattle.std.proofs.lemmas.Map.Keys.{IsDistinct-head, IsDistinct-tail}
use Rattle.step_values.specs.Leaves as leaves
use Rattle.step_values.specs.Leaves.{Leaf}
use Rattle.step_values.specs.Values as values
use Rattle.step_values.specs.Values.{Value, leaf, reference, typed, sequence, bag, Values, none, more, Agree, AgreeEach}
use Rattle.step_values.specs.References.{renamed, renamed_each, EachReference, EachReferenceOf}
use Rattle.step_values.proofs.Crowds.{by_names}
use Rattle.express_syntax.specs.Schemas.{Schema, named}
use Rattle.express_syntax.specs.Profile.{Every}
use Rattle.schema_semantics.specs.Names.{Name, Among}
use Rattle.schema_semantics.specs.Attributes.{Place, same_place}
use Rattle.schema_semantics.proofs.Lists.{every-at}
use Rattle.schema_semantics.proofs.Placed.{is-same, same-itself}
use Rattle.conformance.specs.Bases as bases
use Rattle.conformance.specs.Bases.{Base, Domain, base}
use Rattle.conformance.specs.ParameterFits.{element}
use Rattle.conformance.specs.Populations.{Slot, Instance, instance_at, slot_at}
use Rattle.conformance.specs.Images.{IsLed}
use Rattle.conformance.specs.RuleLaws.{names, IsClosed}
use Rattle.express_logic.specs.Data as data_of
use Rattle.express_logic.specs.Data.{Shape, Data}
use Rattle.conformance.specs.Values.{element_datum, leaf_datum, shape_of, datum, each_datum, datum_at}
use Rattle.conformance.specs.AlikeValues.{IsDataReordering, unchanged, kept, swapped, joined, InOrder, Alike, AlikeEach}
use Rattle.conformance.specs.MeaningImages.{IsInstanceName, LeadsBy, HasPlacesOnce, IsLedTo}

pub ordered : (s : Shape) (ds : Data) → InOrder s ds ds
ordered data_of.list ds = refl
ordered data_of.bag ds = unchanged ds
ordered (data_of.array low high) ds = refl

-- the instance of a name
pub at_name : (y : ℕ) (is : List Instance) (x : Instance) → instance_at is y ≡ Some x → Among x is × (x.name ≡ y)
at_name y [] x h = absurd (cc)
at_name y (z ∷ is) x h = by (z.name == y) refl h (at_name y is x)
  where
    by : (b : Bool) → (z.name == y) ≡ b → cond b (Some z) (instance_at is y) ≡ Some x
        → (instance_at is y ≡ Some x → Among x is × (x.name ≡ y)) → Among x (z ∷ is) × (x.name ≡ y)
    by true e k later =
        let same : z ≡ x = cc in
        (inl same, subst (λ (i : Instance). i.name ≡ y) same (eqb-true z.name y e))
    by false e k later = let rest = later k in (inr rest.0, rest.1)

pub is_name : (y : ℕ) (is : List Instance) → Among y (names is) → IsInstanceName is y
is_name y [] m = elim m [ ]
is_name y (z ∷ is) m = by (z.name == y) refl m (is_name y is)
  where
    by : (b : Bool) → (z.name == y) ≡ b → Among y (z.name ∷ names is) → (Among y (names is) → IsInstanceName is y)
        → (x : Instance) × (cond b (Some z) (instance_at is y) ≡ Some x)
    by true e k later = (z, refl)
    by false e (inl same) later =
        let yes : (z.name == y) ≡ true = eq-eqb z.name y same in absurd (cc)
    by false e (inr k) later = later k

-- what holds of each reference
module _ {P Q : ℕ → Type 0} (f : (y : ℕ) → P y → Q y) where
  mutual
    pub each_other : (v : Value) → EachReference P v → EachReference Q v
    each_other (leaf a) h = tt
    each_other (reference y) h = f y h
    each_other (typed n v) h = each_other v h
    each_other (sequence vs) h = each_other_of vs h
    each_other (bag vs) h = each_other_of vs h

    each_other_of : (vs : Values) → EachReferenceOf P vs → EachReferenceOf Q vs
    each_other_of none h = tt
    each_other_of (more v vs) h = (each_other v h.0, each_other_of vs h.1)

module _ (s : Schema) (d : Domain) where
  pub each_reordered : (b : Base) {us ws : Values} → values.IsReordering us ws
      → IsDataReordering (each_datum s d b us) (each_datum s d b ws)
  each_reordered b (values.unchanged vs) = unchanged (each_datum s d b vs)
  each_reordered b (values.kept v r) = kept (datum s d b v) (each_reordered b r)
  each_reordered b (values.swapped v w vs) = swapped (datum s d b v) (datum s d b w) (each_datum s d b vs)
  each_reordered b (values.joined r q) = joined (each_reordered b r) (each_reordered b q)

  module _ (is : List Instance) (h : ℕ → ℕ) where
    element_same : (b : Base) (e : Name) → Alike (LeadsBy is h) (element_datum b e) (element_datum b e)
    element_same bases.boolean e = refl
    element_same bases.logical e = refl
    element_same _ e = refl

    leaf_same : (b : Base) (a : Leaf) → Alike (LeadsBy is h) (leaf_datum b a) (leaf_datum b a)
    leaf_same b leaves.unset = tt
    leaf_same b leaves.derived = tt
    leaf_same b (leaves.number z) = refl
    leaf_same b (leaves.text t) = refl
    leaf_same b (leaves.bits t) = refl
    leaf_same b (leaves.element e) = element_same b e

    mutual
      pub datum_led : (b : Base) (v w : Value) → EachReference (IsInstanceName is) v → Agree (◌==◌) (renamed h v) w
          → Alike (LeadsBy is h) (datum s d b v) (datum s d b w)
      datum_led b (leaf a) (leaf c) r e =
          subst (λ c. Alike (LeadsBy is h) (leaf_datum b a) (leaf_datum b c)) e (leaf_same b a)
      datum_led b (reference y) (reference z) r e = (r, eqb-true (h y) z e)
      datum_led b (typed n v) (typed m w) r e = (
        e.0,
        subst (λ m. Alike (LeadsBy is h) (datum s d (base d (named n)) v) (datum s d (base d (named m)) w)) e.0
            (datum_led (base d (named n)) v w r e.1),
      )
      datum_led b (sequence vs) (sequence ws) r e = (
        refl,
        (
          each_datum s d (element s d b) ws,
          each_led (element s d b) vs ws r e,
          ordered (shape_of b) (each_datum s d (element s d b) ws),
        ),
      )
      datum_led b (bag vs) (bag ws) r e =
          let m = by_names (renamed_each h vs) ws e in (
            refl,
            (
              each_datum s d (element s d b) m.0,
              each_led (element s d b) vs m.0 r m.2,
              each_reordered (element s d b) m.1,
            ),
          )
      datum_led b _ _ r e = absurd e

      each_led : (b : Base) (vs ws : Values) → EachReferenceOf (IsInstanceName is) vs
          → AgreeEach (◌==◌) (renamed_each h vs) ws
          → AlikeEach (LeadsBy is h) (each_datum s d b vs) (each_datum s d b ws)
      each_led b none none r e = tt
      each_led b (more v vs) (more w ws) r e = (datum_led b v w r.0 e.0, each_led b vs ws r.1 e.1)
      each_led b _ _ r e = absurd e

-- the value of a place
pub at_place : (p : Place) (xs : List Slot) (v : Value) → slot_at xs p ≡ Some v
    → (x : Slot) × Among x xs × (x.place ≡ p) × (x.value ≡ v)
at_place p [] v h = absurd (cc)
at_place p (x ∷ xs) v h = by (same_place x.place p) refl h (at_place p xs v)
  where
    by : (b : Bool) → same_place x.place p ≡ b → cond b (Some x.value) (slot_at xs p) ≡ Some v
        → (slot_at xs p ≡ Some v → (y : Slot) × Among y xs × (y.place ≡ p) × (y.value ≡ v))
        → (y : Slot) × Among y (x ∷ xs) × (y.place ≡ p) × (y.value ≡ v)
    by true e k later = (x, inl refl, is-same x.place p e, (cc))
    by false e k later = let rest = later k in (rest.0, inr rest.1, rest.2, rest.3)

differs : (p : Place) (y : Slot) (xs : List Slot)
    → AllByRecursion (λ q. same_place p q ≡ false) (map (λ (x : Slot). x.place) xs) → Among y xs
    → same_place p y.place ≡ false
differs p y [] h m = elim m [ ]
differs p y (x ∷ xs) h (inl e) = subst (λ (z : Slot). same_place p z.place ≡ false) e h.0
differs p y (x ∷ xs) h (inr m) = differs p y xs h.1 m

pub place_at : (y : Slot) (xs : List Slot) → IsDistinct same_place (map (λ (x : Slot). x.place) xs) → Among y xs
    → slot_at xs y.place ≡ Some y.value
place_at y [] h m = elim m [ ]
place_at y (x ∷ xs) h (inl e) =
    subst (λ (z : Slot). cond (same_place x.place z.place) (Some x.value) (slot_at xs z.place) ≡ Some z.value) e
    (ap (λ (b : Bool). cond b (Some x.value) (slot_at xs x.place)) (same-itself x.place))
place_at y (x ∷ xs) h (inr m) =
    ap (λ (b : Bool). cond b (Some x.value) (slot_at xs y.place))
    (differs x.place y xs (IsDistinct-head same_place x.place (map (λ (z : Slot). z.place) xs) h) m)
    ∙ place_at y xs (IsDistinct-tail same_place x.place (map (λ (z : Slot). z.place) xs) h) m

-- two values that there are, or none
abbrev pub AgreeAt : (ℕ → ℕ) → Option Value → Option Value → Type 0
AgreeAt h None None = ⊤
AgreeAt h (Some v) (Some w) = Agree (◌==◌) (renamed h v) w
AgreeAt h o q = ⊥

from_places : (p : Place) (xs : List Slot) → Among p (map (λ (x : Slot). x.place) xs)
    → (x : Slot) × Among x xs × (x.place ≡ p)
from_places p [] m = elim m [ ]
from_places p (x ∷ xs) (inl e) = (x, inl refl, e)
from_places p (x ∷ xs) (inr m) = let rest = from_places p xs m in (rest.0, inr rest.1, rest.2)

-- a place that a slot has
is_there : (y : Slot) (xs : List Slot) → Among y xs → slot_at xs y.place ≡ None → ⊥
is_there y [] m h = elim m [ ]
is_there y (x ∷ xs) m h = by (same_place x.place y.place) refl m h (is_there y xs)
  where
    by : (b : Bool) → same_place x.place y.place ≡ b → Among y (x ∷ xs)
        → cond b (Some x.value) (slot_at xs y.place) ≡ None → (Among y xs → slot_at xs y.place ≡ None → ⊥) → ⊥
    by true e k q later = absurd (cc)
    by false e (inl same) q later =
        let yes : same_place x.place y.place ≡ true =
        subst (λ (z : Slot). same_place x.place z.place ≡ true) same (same-itself x.place) in
        absurd (cc)
    by false e (inr k) q later = later k q

pub slots_led : (h : ℕ → ℕ) (x z : Instance) → HasPlacesOnce x → IsLed h x z → (p : Place)
    → AgreeAt h (slot_at x.slots p) (slot_at z.slots p)
slots_led h x z once l p = by (slot_at x.slots p) (slot_at z.slots p) refl refl
  where
    by : (o q : Option Value) → slot_at x.slots p ≡ o → slot_at z.slots p ≡ q → AgreeAt h o q
    by None None e f = tt
    by (Some v) None e f =
        let here = at_place p x.slots v e in
        let there = from_places here.0.place z.slots (l.places here.0 here.1) in
        absurd (is_there there.0 z.slots there.1
        (subst (λ (r : Place). slot_at z.slots r ≡ None) (sym (there.2 ∙ here.2)) f))
    by o (Some w) e f =
        let there = at_place p z.slots w f in
        let here = l.values there.0 there.1 in
        let found : slot_at x.slots p ≡ Some here.0.value =
        subst (λ (r : Place). slot_at x.slots r ≡ Some here.0.value) (here.2 ∙ there.2)
        (place_at here.0 x.slots once here.1) in
        subst (λ q. AgreeAt h q (Some w)) (sym found ∙ e)
        (subst (λ u. Agree (◌==◌) (renamed h here.0.value) u) there.3 here.3)

-- the references of a value
pub refers : (is : List Instance) → IsClosed is → (x : Instance) → Among x is → (p : Place) (v : Value)
    → slot_at x.slots p ≡ Some v → EachReference (IsInstanceName is) v
refers is closed x m p v e =
    let at = at_place p x.slots v e in
    subst (EachReference (IsInstanceName is)) at.3
    (each_other (λ y. is_name y is) at.0.value
    (every-at (λ (y : Slot). EachReference (λ n. Among n (names is)) y.value) at.0 x.slots
    (every-at (λ (i : Instance). Every (λ (y : Slot). EachReference (λ n. Among n (names is)) y.value) i.slots) x is
    closed m) at.1))

-- what the value of a place is worth
pub place_led : (s : Schema) (d : Domain) (is js : List Instance) (h : ℕ → ℕ) → IsLedTo is js h → (x z : Instance)
    → Among x is → IsLed h x z → (b : Base) (p : Place)
    → Alike (LeadsBy is h) (datum_at s d b (slot_at x.slots p)) (datum_at s d b (slot_at z.slots p))
place_led s d is js h to x z m l b p =
    by (slot_at x.slots p) (slot_at z.slots p) refl
    (slots_led h x z (every-at HasPlacesOnce x is to.once m) l p)
  where
    by : (o q : Option Value) → slot_at x.slots p ≡ o → AgreeAt h o q
        → Alike (LeadsBy is h) (datum_at s d b o) (datum_at s d b q)
    by None None e a = tt
    by (Some v) (Some w) e a = datum_led s d is h b v w (refers is to.closed x m p v e) a
    by None (Some w) e a = absurd a
    by (Some v) None e a = absurd a
