-- What is pinned is there.
use Rattle.std.specs.Prelude.{◌≡◌, ℕ, ◌==◌, Bool, IsTrue, true, false, not, ◌||◌, cond, List, [], ◌∷◌, Some, ◌⊎◌}
use Rattle.std.proofs.Common.{refl, subst, inl, inr, eqb-true}
use Rattle.step_values.specs.Values.{Value, leaf, reference, typed, sequence, bag, Values, none, more, is_crowd}
use Rattle.step_values.specs.References.{EachReference, EachReferenceOf}
use Rattle.express_syntax.specs.Schemas.{Schema, DataType}
use Rattle.express_syntax.specs.Profile.{Every}
use Rattle.schema_semantics.specs.Names.{Name, OneOf, Among}
use Rattle.schema_semantics.specs.Attributes.{Place, same_place}
use Rattle.schema_semantics.proofs.Lists.{every-at, among-map}
use Rattle.conformance.specs.Bases.{Base, Domain, base}
use Rattle.conformance.specs.ParameterFits.{is_listed}
use Rattle.conformance.specs.Entities.{Entities, data_types, is_leaf}
use Rattle.conformance.specs.Populations.{Slot, Instance, slot_at, instance_at, types_in, types_at}
use Rattle.conformance.specs.SeparatingMaps.{Occurs, OccursIn}
use Rattle.conformance.specs.CollectionMembers.{pins_members, InBag, InBagOf, InUnique, InUniqueOf, StandsInBag, StandsInUnique}
use Rattle.conformance.specs.Rules.{UniqueRule, InverseAttribute}
use Rattle.conformance.specs.Pins.{OccursAt, IsInKey, RefersByInverse, IsInverseSide}
use Rattle.conformance.specs.RuleLaws.{names, IsClosed, PinnedAreThere}
use Rattle.conformance.proofs.Standing.{found}
use Rattle.conformance.proofs.Holding.{named_at}

-- what holds by either test holds by the first, if the second says more
pub first_way : {A B : Type 0} (b : Bool) → (B → A) → cond b A B → A
first_way true f h = h
first_way false f h = f h

-- what holds by the second test holds by the one that is asked
pub asked_way : {A B : Type 0} (b : Bool) → (B → A) → B → cond b A B
asked_way true f h = f h
asked_way false f h = h

-- what stands in a SET or BAG stands in the value
module _ (in_sets : Bool) where
  mutual
    pub bag_occurs : (y : ℕ) (v : Value) → InBag in_sets y v → Occurs y v
    bag_occurs y (leaf a) h = h
    bag_occurs y (reference z) h = absurd h
    bag_occurs y (typed n v) h = bag_occurs y v h
    bag_occurs y (sequence vs) h = bag_occurs_in y vs h
    bag_occurs y (bag vs) h = first_way (pins_members in_sets vs) (λ k. bag_occurs_in y vs k) h

    pub bag_occurs_in : (y : ℕ) (vs : Values) → InBagOf in_sets y vs → OccursIn y vs
    bag_occurs_in y none h = h
    bag_occurs_in y (more v vs) (inl h) = inl (bag_occurs y v h)
    bag_occurs_in y (more v vs) (inr h) = inr (bag_occurs_in y vs h)

  -- what stands in a SET or BAG inside another one stands in that one
  pub bag_inside : (y : ℕ) (vs : Values) → InBagOf in_sets y vs → InBag in_sets y (bag vs)
  bag_inside y vs h = asked_way (pins_members in_sets vs) (λ k. bag_occurs_in y vs k) h

-- what stands in a SET or BAG of more than one value stands in one that pins it
pub crowd_pins : (in_sets : Bool) (y : ℕ) (vs : Values) → is_crowd vs ≡ true → OccursIn y vs
    → InBag in_sets y (bag vs)
crowd_pins in_sets y vs e h = by in_sets (is_crowd vs) e
  where
    by : (c b : Bool) → b ≡ true → cond (not c || b) (OccursIn y vs) (InBagOf in_sets y vs)
    by true true k = h
    by true false k = absurd (cc)
    by false b k = h

-- what holds of each reference holds of what stands in the value
module _ (P : ℕ → Type 0) where
  mutual
    pub at : (y : ℕ) (v : Value) → EachReference P v → Occurs y v → P y
    at y (leaf a) f h = absurd h
    at y (reference z) f h = rw h f
    at y (typed n v) f h = at y v f h
    at y (sequence vs) f h = at_in y vs f h
    at y (bag vs) f h = at_in y vs f h

    pub at_in : (y : ℕ) (vs : Values) → EachReferenceOf P vs → OccursIn y vs → P y
    at_in y none f h = absurd h
    at_in y (more v vs) f (inl h) = at y v f.0 h
    at_in y (more v vs) f (inr h) = at_in y vs f.1 h

-- what stands in a value OF UNIQUE stands in the value
module _ (s : Schema) (d : Domain) (y : ℕ) where
  mutual
    unique_occurs : (b : Base) (v : Value) → InUnique s d y b v → Occurs y v
    unique_occurs b (leaf a) h = h
    unique_occurs b (reference z) h = absurd h
    unique_occurs b (typed word v) h = unique_occurs h.0 v h.2
    unique_occurs b (sequence vs) h =
        elim h.2 [ inl p ↦ p.1 | inr m ↦ unique_occurs_in (base d h.0.element) vs m ]
    unique_occurs b (bag vs) h = unique_occurs_in (base d h.0.element) vs h.2

    unique_occurs_in : (b : Base) (vs : Values) → InUniqueOf s d y b vs → OccursIn y vs
    unique_occurs_in b none h = h
    unique_occurs_in b (more v vs) (inl h) = inl (unique_occurs b v h)
    unique_occurs_in b (more v vs) (inr h) = inr (unique_occurs_in b vs h)

-- the value of an attribute is one of those of the instance
slot_among : (p : Place) (xs : List Slot) (y : ℕ) → OccursAt y (slot_at xs p)
    → (x : Slot) × Among x xs × Occurs y x.value
slot_among p [] y h = elim h [ ]
slot_among p (x ∷ xs) y h = by (same_place x.place p) h (slot_among p xs y)
  where
    by : (b : Bool) → OccursAt y (cond b (Some x.value) (slot_at xs p))
        → (OccursAt y (slot_at xs p) → (z : Slot) × Among z xs × Occurs y z.value)
        → (z : Slot) × Among z (x ∷ xs) × Occurs y z.value
    by true k rest = (x, inl refl, k)
    by false k rest = let z = rest k in (z.0, inr z.1, z.2)

type_named : (y : ℕ) (is : List Instance) (P : Name → Type 0) → OneOf P (types_at is y) → Among y (names is)
type_named y [] P h = elim h [ ]
type_named y (i ∷ is) P h = by (i.name == y) refl h (type_named y is P)
  where
    by : (b : Bool) → (i.name == y) ≡ b → OneOf P (types_in (cond b (Some i) (instance_at is y)))
        → (OneOf P (types_at is y) → Among y (names is)) → Among y (names (i ∷ is))
    by true e k rest = inl (eqb-true i.name y e)
    by false e k rest = inr (rest k)

module _ (is : List Instance) (closed : IsClosed is) where
  abbrev Named : ℕ → Type 0
  Named y = Among y (names is)

  pub reference_named : (i : Instance) → Among i is → (x : Slot) → Among x i.slots → EachReference Named x.value
  reference_named i m x n =
      every-at (λ (z : Slot). EachReference Named z.value) x i.slots
      (every-at (λ (j : Instance). Every (λ (z : Slot). EachReference Named z.value) j.slots) i is closed m) n

  named : (y : ℕ) (i : Instance) → Among i is → (x : Slot) → Among x i.slots → Occurs y x.value → Named y
  named y i m x n h = at Named y x.value (reference_named i m x n) h

  name_there : (y : ℕ) (i : Instance) → Among i is → i.name ≡ y → Named y
  name_there y i m e = subst Named e (among-map (λ (j : Instance). j.name) i is m)

  bag_named : (s : Schema) (d : Domain) (en : Entities) (in_sets : Bool) (y : ℕ)
      → OneOf (StandsInBag s d en in_sets y) is → Named y
  bag_named s d en in_sets y h =
      let i = found (StandsInBag s d en in_sets y) is h in
      let x = found (λ (z : Slot). InBag in_sets y z.value) i.0.slots i.2 in
      named y i.0 i.1 x.0 x.1 (bag_occurs in_sets y x.0.value x.2)

  unique_named : (s : Schema) (d : Domain) (en : Entities) (y : ℕ) → OneOf (StandsInUnique s d en y) is → Named y
  unique_named s d en y h =
      let i = found (StandsInUnique s d en y) is h in
      let x = found (λ (z : Slot). OneOf (λ (k : DataType). InUnique s d y (base d k) z.value)
      (data_types s en i.0.types z.place)) i.0.slots i.2 in
      let k = found (λ (l : DataType). InUnique s d y (base d l) x.0.value) (data_types s en i.0.types x.0.place)
      x.2 in
      named y i.0 i.1 x.0 x.1 (unique_occurs s d y (base d k.0) x.0.value k.2)

  key_named : (y : ℕ) (u : UniqueRule) → IsInKey is y u → Named y
  key_named y u (inl h) = let i = named_at y is u.entity h in name_there y i.0 i.1 i.2
  key_named y u (inr h) =
      let i = found (λ (x : Instance). IsTrue (is_listed u.entity x.types)
      × OneOf (λ (p : Place). OccursAt y (slot_at x.slots p)) u.places) is h in
      let p = found (λ (q : Place). OccursAt y (slot_at i.0.slots q)) u.places i.2.1 in
      let x = slot_among p.0 i.0.slots y p.2 in
      named y i.0 i.1 x.0 x.1 x.2

  side_named : (y : ℕ) (i : InverseAttribute) → IsInverseSide is y i → Named y
  side_named y i h =
      let x = found (λ (v : Instance). OneOf (λ (w : Instance). RefersByInverse i v w × ((v.name ≡ y) ⊎ (w.name ≡ y))) is)
      is h in
      let z = found (λ (w : Instance). RefersByInverse i x.0 w × ((x.0.name ≡ y) ⊎ (w.name ≡ y))) is x.2 in
      elim z.2.1 [ inl e ↦ name_there y x.0 x.1 e | inr e ↦ name_there y z.0 z.1 e ]

pub pinned_are_there : PinnedAreThere
pinned_are_there s d en rules chosen is closed y (inl (inl h)) =
    type_named y is (λ e. IsTrue (is_leaf s en (types_at is y) e) × (is_listed e chosen.entities ≡ false)) h
pinned_are_there s d en rules chosen is closed y (inl (inr (inl h))) = bag_named is closed s d en chosen.in_sets y h
pinned_are_there s d en rules chosen is closed y (inl (inr (inr (inl h)))) =
    let u = found (IsInKey is y) rules.uniques h in key_named is closed y u.0 u.2
pinned_are_there s d en rules chosen is closed y (inl (inr (inr (inr h)))) =
    let i = found (IsInverseSide is y) rules.inverses h in side_named is closed y i.0 i.2
pinned_are_there s d en rules chosen is closed y (inr h) = unique_named is closed s d en y h
