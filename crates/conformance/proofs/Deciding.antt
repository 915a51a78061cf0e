-- Pins are decided.
use Rattle.std.specs.Prelude.{◌≡◌, ◌≢◌, ℕ, Bool, IsTrue, true, false, cond, List, Option, Some, None, ◌⊎◌}
use Rattle.std.proofs.Common.{refl, sym, ap, subst, inl, inr}
use Rattle.std.proofs.lemmas.Bool.{both_ways}
use Rattle.step_values.specs.Values.{Value, leaf, reference, typed, sequence, bag, Values, none, more}
use Rattle.express_syntax.specs.Schemas.{Schema, DataType}
use Rattle.schema_semantics.specs.Names.{Name, OneOf}
use Rattle.schema_semantics.specs.Attributes.{Place}
use Rattle.conformance.specs.Choices.{MergeOptions}
use Rattle.conformance.specs.Bases.{Aggregate, Base, integer, number, boolean, logical, string, binary, enumeration, entity, select, aggregate, Domain, base}
use Rattle.conformance.specs.ParameterFits.{inner, is_listed}
use Rattle.conformance.specs.Entities.{Entities, data_types, is_leaf}
use Rattle.conformance.specs.Populations.{Slot, Instance, slot_at, types_at}
use Rattle.conformance.specs.SeparatingMaps.{Occurs, OccursIn}
use Rattle.conformance.specs.CollectionMembers.{pins_members, InBag, InBagOf, StandsInBag}
use Rattle.conformance.specs.Rules.{UniqueRule, InverseAttribute, Rules}
use Rattle.conformance.specs.Elements.{AnElement, IsReferenceTo, StandsWithin, IsAnotherOfClass, HasUnique, HasUniqueAmong, HasUniqueValue}
use Rattle.conformance.specs.Pins.{HasUnchosenLeaf, OccursAt, IsInKey, RefersByInverse, IsInverseSide, StandsInsideUnique, StandsBesideItsClass, IsPinnedElsewhere, IsWeaklyPinned, IsGentlyPinned}
use Rattle.conformance.specs.RuleLaws.{PinsHaveTests}
use Rattle.conformance.proofs.Decided.{Decided, test, test_decides, either_decided, both_decided, not_decided, one_decided, true_decided, false_decided, same_decided, some_decided}

abbrev mutual
  pub occurs_decided : (y : ℕ) (v : Value) → Decided (Occurs y v)
  occurs_decided y (leaf a) = inr (λ h. h)
  occurs_decided y (reference z) = same_decided y z
  occurs_decided y (typed n v) = occurs_decided y v
  occurs_decided y (sequence vs) = occurs_in_decided y vs
  occurs_decided y (bag vs) = occurs_in_decided y vs

  pub occurs_in_decided : (y : ℕ) (vs : Values) → Decided (OccursIn y vs)
  occurs_in_decided y none = inr (λ h. h)
  occurs_in_decided y (more v vs) = either_decided (occurs_decided y v) (occurs_in_decided y vs)

abbrev asked_decided : {A B : Type 0} (b : Bool) → Decided A → Decided B → Decided (cond b A B)
asked_decided true f g = f
asked_decided false f g = g

module _ (in_sets : Bool) where
  abbrev mutual
    in_bag_decided : (y : ℕ) (v : Value) → Decided (InBag in_sets y v)
    in_bag_decided y (leaf a) = inr (λ h. h)
    in_bag_decided y (reference z) = inr (λ h. h)
    in_bag_decided y (typed n v) = in_bag_decided y v
    in_bag_decided y (sequence vs) = in_bags_decided y vs
    in_bag_decided y (bag vs) =
        asked_decided (pins_members in_sets vs) (occurs_in_decided y vs) (in_bags_decided y vs)

    in_bags_decided : (y : ℕ) (vs : Values) → Decided (InBagOf in_sets y vs)
    in_bags_decided y none = inr (λ h. h)
    in_bags_decided y (more v vs) = either_decided (in_bag_decided y v) (in_bags_decided y vs)

abbrev within_decided : (y : ℕ) (v : Value) → Decided (StandsWithin y v)
within_decided y (leaf a) = inr (λ h. h)
within_decided y (reference z) = inr (λ h. h)
within_decided y (typed n v) = occurs_decided y v
within_decided y (sequence vs) = occurs_in_decided y vs
within_decided y (bag vs) = occurs_in_decided y vs

abbrev element_decided : (P : Value → Type 0) → ((v : Value) → Decided (P v)) → (vs : Values)
    → Decided (AnElement P vs)
element_decided P f none = inr (λ h. h)
element_decided P f (more v vs) = either_decided (f v) (element_decided P f vs)

-- the instance that a value is
referred : ℕ → Value → ℕ
referred d (reference z) = z
referred d _ = d

pub one_referred : (y z : ℕ) → reference z ≡ reference y → z ≡ y
unfolding referred
one_referred y z e = ap (referred 0) e

abbrev refers_by : (y z : ℕ) → Decided (z ≡ y) → Decided (IsReferenceTo y (reference z))
refers_by y z (inl e) = inl (ap reference e)
refers_by y z (inr n) = inr (λ h. n (one_referred y z h))

abbrev is_reference : Value → Bool
is_reference (reference z) = true
is_reference _ = false

pub no_reference : (y : ℕ) (v : Value) → is_reference v ≡ false → IsReferenceTo y v → ⊥
no_reference y v other e = both_ways (is_reference v) other (ap is_reference e)

abbrev is_decided : (y : ℕ) (v : Value) → Decided (IsReferenceTo y v)
is_decided y (reference z) = refers_by y z (same_decided z y)
is_decided y (leaf a) = inr (no_reference y (leaf a) refl)
is_decided y (typed n v) = inr (no_reference y (typed n v) refl)
is_decided y (sequence vs) = inr (no_reference y (sequence vs) refl)
is_decided y (bag vs) = inr (no_reference y (bag vs) refl)

module _ (E : ℕ → ℕ → Bool) (y : ℕ) where
  pub another_from : (z : ℕ) → (z ≢ y) × (E y z ≡ true) → IsAnotherOfClass E y (reference z)
  another_from z p = (z, refl, p.0, p.1)

  pub another_to : (z : ℕ) → IsAnotherOfClass E y (reference z) → (z ≢ y) × (E y z ≡ true)
  another_to z h =
      let same : z ≡ h.0 = one_referred h.0 z h.1 in
      subst (λ w. (w ≢ y) × (E y w ≡ true)) (sym same) (h.2, h.3)

  pub no_other : (v : Value) → is_reference v ≡ false → IsAnotherOfClass E y v → ⊥
  no_other v other h = no_reference h.0 v other h.1

  abbrev another_by : (z : ℕ) → Decided ((z ≢ y) × (E y z ≡ true)) → Decided (IsAnotherOfClass E y (reference z))
  another_by z (inl p) = inl (another_from z p)
  another_by z (inr n) = inr (λ h. n (another_to z h))

  abbrev another_decided : (v : Value) → Decided (IsAnotherOfClass E y v)
  another_decided (reference z) =
      another_by z (both_decided (not_decided (same_decided z y)) (true_decided (E y z)))
  another_decided (leaf a) = inr (no_other (leaf a) refl)
  another_decided (typed n v) = inr (no_other (typed n v) refl)
  another_decided (sequence vs) = inr (no_other (sequence vs) refl)
  another_decided (bag vs) = inr (no_other (bag vs) refl)

abbrev is_aggregate : Base → Bool
is_aggregate (aggregate a) = true
is_aggregate _ = false

module _ (Q : Aggregate → Type 0) where
  pub no_aggregate : (b : Base) → is_aggregate b ≡ false → (a : Aggregate) × (b ≡ aggregate a) × Q a → ⊥
  no_aggregate b other h = both_ways (is_aggregate b) other (ap is_aggregate h.1)

  pub one_aggregate : (a c : Aggregate) → aggregate a ≡ aggregate c → a ≡ c
  one_aggregate a c e = cc

  abbrev aggregate_by : (a : Aggregate) → Decided (Q a) → Decided ((c : Aggregate) × (aggregate a ≡ aggregate c) × Q c)
  aggregate_by a (inl q) = inl (a, refl, q)
  aggregate_by a (inr n) = inr (λ h. n (subst Q (sym (one_aggregate a h.0 h.1)) h.2))

  abbrev aggregate_decided : ((a : Aggregate) → Decided (Q a)) → (b : Base)
      → Decided ((a : Aggregate) × (b ≡ aggregate a) × Q a)
  aggregate_decided f (aggregate a) = aggregate_by a (f a)
  aggregate_decided f integer = inr (no_aggregate integer refl)
  aggregate_decided f number = inr (no_aggregate number refl)
  aggregate_decided f boolean = inr (no_aggregate boolean refl)
  aggregate_decided f logical = inr (no_aggregate logical refl)
  aggregate_decided f (string w) = inr (no_aggregate (string w) refl)
  aggregate_decided f (binary w) = inr (no_aggregate (binary w) refl)
  aggregate_decided f (enumeration ns) = inr (no_aggregate (enumeration ns) refl)
  aggregate_decided f (entity n) = inr (no_aggregate (entity n) refl)
  aggregate_decided f (select n) = inr (no_aggregate (select n) refl)

module _ (s : Schema) (d : Domain) (P : Values → Type 0) (f : (vs : Values) → Decided (P vs)) where
  abbrev mutual
    unique_decided : (b : Base) (v : Value) → Decided (HasUnique s d P b v)
    unique_decided b (leaf a) = inr (λ h. h)
    unique_decided b (reference y) = inr (λ h. h)
    unique_decided b (typed word v) =
        some_decided (λ c. HasUnique s d P c v) (λ c. unique_decided c v) (inner s d b word)
    unique_decided b (sequence vs) =
        aggregate_decided (λ a. ((a.unique ≡ true) × P vs) ⊎ HasUniqueAmong s d P (base d a.element) vs)
        (λ a. either_decided (both_decided (true_decided a.unique) (f vs)) (uniques_decided (base d a.element) vs)) b
    unique_decided b (bag vs) =
        aggregate_decided (λ a. HasUniqueAmong s d P (base d a.element) vs)
        (λ a. uniques_decided (base d a.element) vs) b

    uniques_decided : (b : Base) (vs : Values) → Decided (HasUniqueAmong s d P b vs)
    uniques_decided b none = inr (λ h. h)
    uniques_decided b (more v vs) = either_decided (unique_decided b v) (uniques_decided b vs)

  abbrev value_decided : (en : Entities) (i : Instance) → Decided (HasUniqueValue s d en P i)
  value_decided en i =
      one_decided (λ (x : Slot). OneOf (λ (k : DataType). HasUnique s d P (base d k) x.value)
      (data_types s en i.types x.place))
      (λ (x : Slot). one_decided (λ (k : DataType). HasUnique s d P (base d k) x.value)
      (λ (k : DataType). unique_decided (base d k) x.value) (data_types s en i.types x.place)) i.slots

module _ (y : ℕ) where
  abbrev at_decided : (o : Option Value) → Decided (OccursAt y o)
  at_decided None = inr (λ h. h)
  at_decided (Some v) = occurs_decided y v

  module _ (is : List Instance) where
    abbrev key_decided : (u : UniqueRule) → Decided (IsInKey is y u)
    key_decided u =
        either_decided (true_decided (is_listed u.entity (types_at is y)))
        (one_decided (λ (x : Instance). IsTrue (is_listed u.entity x.types)
        × OneOf (λ (p : Place). OccursAt y (slot_at x.slots p)) u.places)
        (λ (x : Instance). both_decided (true_decided (is_listed u.entity x.types))
        (one_decided (λ (p : Place). OccursAt y (slot_at x.slots p))
        (λ (p : Place). at_decided (slot_at x.slots p)) u.places)) is)

abbrev three_by : {P Q R : Type 0} → Decided (P × (Q × R)) → Decided (P × Q × R)
three_by (inl h) = inl (h.0, h.1.0, h.1.1)
three_by (inr n) = inr (λ h. n (h.0, (h.1, h.2)))

abbrev refers_decided : (i : InverseAttribute) (x z : Instance) → Decided (RefersByInverse i x z)
refers_decided i x z =
    three_by (both_decided (true_decided (is_listed i.referrer x.types))
    (both_decided (at_decided z.name (slot_at x.slots i.inverted)) (true_decided (is_listed i.entity z.types))))

abbrev side_decided : (is : List Instance) (y : ℕ) (i : InverseAttribute) → Decided (IsInverseSide is y i)
side_decided is y i =
    one_decided (λ (x : Instance). OneOf (λ (z : Instance). RefersByInverse i x z × ((x.name ≡ y) ⊎ (z.name ≡ y))) is)
    (λ (x : Instance). one_decided (λ (z : Instance). RefersByInverse i x z × ((x.name ≡ y) ⊎ (z.name ≡ y)))
    (λ (z : Instance). both_decided (refers_decided i x z)
    (either_decided (same_decided x.name y) (same_decided z.name y))) is) is

module _ (s : Schema) (d : Domain) (en : Entities) (y : ℕ) where
  abbrev stands_in_bag_decided : (in_sets : Bool) (i : Instance) → Decided (StandsInBag s d en in_sets y i)
  stands_in_bag_decided in_sets i =
      one_decided (λ (x : Slot). InBag in_sets y x.value) (λ (x : Slot). in_bag_decided in_sets y x.value) i.slots

  abbrev inside_decided : (i : Instance) → Decided (StandsInsideUnique s d en y i)
  inside_decided i =
      value_decided s d (AnElement (StandsWithin y)) (element_decided (StandsWithin y) (within_decided y)) en i

  abbrev beside_decided : (E : ℕ → ℕ → Bool) (i : Instance) → Decided (StandsBesideItsClass s d en E y i)
  beside_decided E i =
      value_decided s d (λ vs. AnElement (IsReferenceTo y) vs × AnElement (IsAnotherOfClass E y) vs)
      (λ vs. both_decided (element_decided (IsReferenceTo y) (is_decided y) vs)
      (element_decided (IsAnotherOfClass E y) (another_decided E y) vs)) en i

  abbrev leaf_decided : (chosen types : List Name) → Decided (HasUnchosenLeaf s en chosen types)
  leaf_decided chosen types =
      one_decided (λ e. IsTrue (is_leaf s en types e) × (is_listed e chosen ≡ false))
      (λ e. both_decided (true_decided (is_leaf s en types e)) (false_decided (is_listed e chosen))) types

module _ (s : Schema) (d : Domain) (en : Entities) (rules : Rules) (chosen : MergeOptions) (is : List Instance) where
  abbrev elsewhere_decided : (y : ℕ) → Decided (IsPinnedElsewhere s d en rules chosen is y)
  elsewhere_decided y =
      either_decided (leaf_decided s d en y chosen.entities (types_at is y))
      (either_decided (one_decided (StandsInBag s d en chosen.in_sets y) (stands_in_bag_decided s d en y chosen.in_sets) is)
      (either_decided (one_decided (IsInKey is y) (key_decided y is) rules.uniques)
      (one_decided (IsInverseSide is y) (side_decided is y) rules.inverses)))

  abbrev pub weak_decided : (y : ℕ) → Decided (IsWeaklyPinned s d en rules chosen is y)
  weak_decided y =
      either_decided (elsewhere_decided y)
      (one_decided (StandsInsideUnique s d en y) (inside_decided s d en y) is)

  abbrev pub gentle_decided : (E : ℕ → ℕ → Bool) (y : ℕ) → Decided (IsGentlyPinned s d en rules chosen is E y)
  gentle_decided E y =
      either_decided (weak_decided y)
      (one_decided (StandsBesideItsClass s d en E y) (beside_decided s d en y E) is)

pub pins_have_tests : PinsHaveTests
pins_have_tests s d en rules chosen is = (
  ((λ y. test (weak_decided s d en rules chosen is y)), λ y. test_decides (weak_decided s d en rules chosen is y)),
  λ E. (
    (λ y. test (gentle_decided s d en rules chosen is E y)),
    λ y. test_decides (gentle_decided s d en rules chosen is E y),
  ),
)
