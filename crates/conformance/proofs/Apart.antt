-- A map that agrees with the classes keeps elements apart under gentle pins.
use Rattle.std.specs.Prelude.{◌≡◌, ℕ, Bool, IsTrue, true, ◌⊎◌}
use Rattle.std.proofs.Common.{sym, inl, inr}
use Rattle.std.proofs.lemmas.Bool.{cases_eq}
use Rattle.step_values.specs.Values.{Value, leaf, reference, typed, sequence, bag, Values, none, more}
use Rattle.step_values.specs.References.{EachReference, EachReferenceOf}
use Rattle.express_syntax.specs.Schemas.{Schema, DataType}
use Rattle.schema_semantics.specs.Names.{OneOf, Among}
use Rattle.schema_semantics.proofs.Lists.{every-of}
use Rattle.conformance.specs.Bases.{Base, Domain, base}
use Rattle.conformance.specs.Entities.{data_types}
use Rattle.conformance.specs.Populations.{Slot}
use Rattle.conformance.specs.SeparatingMaps.{OccursIn, KeepsApart, KeepEachApart}
use Rattle.conformance.specs.Images.{KeepsSlotApart}
use Rattle.conformance.specs.CollectionMembers.{InBag, InBagOf, StandsInBag}
use Rattle.conformance.specs.Elements.{AnElement, IsReferenceTo, StandsWithin, IsAnotherOfClass, HasUnique, HasUniqueAmong}
use Rattle.conformance.specs.Pins.{StandsInsideUnique, StandsBesideItsClass}
use Rattle.conformance.specs.RuleLaws.{names, GentlePinsKeepApart}
use Rattle.conformance.proofs.There.{at_in, bag_inside, crowd_pins, reference_named}
use Rattle.conformance.proofs.Standing.{one_is, an_other, occurs_is_in}

-- Here is what is there, pins are what is told apart from all else, and E relates what h leads to one.
module _ (s : Schema) (d : Domain) (h : ℕ → ℕ) (E : ℕ → ℕ → Bool) (Here Pinned : ℕ → Type 0)
    (alone : (y z : ℕ) → Here y → Here z → Pinned z → h y ≡ h z → y ≡ z)
    (one : (y z : ℕ) → Here y → Here z → h y ≡ h z → E y z ≡ true) where
  abbrev Beside : ℕ → Values → Type 0
  Beside y vs = AnElement (IsReferenceTo y) vs × AnElement (IsAnotherOfClass E y) vs

  apart : (vs : Values) → EachReferenceOf Here vs → ((y : ℕ) → AnElement (StandsWithin y) vs → Pinned y)
      → ((y : ℕ) → Beside y vs → Pinned y) → (y z : ℕ) → OccursIn y vs → OccursIn z vs → h y ≡ h z → y ≡ z
  apart vs here within beside y z p q e = by (occurs_is_in y vs p) (occurs_is_in z vs q)
    where
      m : Here y
      m = at_in Here y vs here p

      n : Here z
      n = at_in Here z vs here q

      elements : AnElement (IsReferenceTo y) vs → AnElement (IsReferenceTo z) vs → (y ≡ z) ⊎ (y ≡ z → ⊥) → y ≡ z
      elements i j (inl same) = same
      elements i j (inr differ) =
          sym (alone z y n m
          (beside y (i, an_other (λ v k. (z, k, (λ f. differ (sym f)), one y z m n e)) vs j)) (sym e))

      by : AnElement (IsReferenceTo y) vs ⊎ AnElement (StandsWithin y) vs
          → AnElement (IsReferenceTo z) vs ⊎ AnElement (StandsWithin z) vs → y ≡ z
      by (inr w) j = sym (alone z y n m (within y w) (sym e))
      by (inl i) (inr w) = alone y z m n (within z w) e
      by (inl i) (inl j) = elements i j (cases_eq y z)

  module _ (in_sets : Bool) where
    mutual
      kept_apart : (b : Base) (v : Value) → EachReference Here v → ((y : ℕ) → InBag in_sets y v → Pinned y)
          → ((y : ℕ) → HasUnique s d (AnElement (StandsWithin y)) b v → Pinned y)
          → ((y : ℕ) → HasUnique s d (Beside y) b v → Pinned y) → KeepsApart s d h b v
      kept_apart b (leaf a) here f g k = tt
      kept_apart b (reference y) here f g k = tt
      kept_apart b (typed word v) here f g k =
          λ c e. kept_apart c v here f (λ y m. g y (c, e, m)) (λ y m. k y (c, e, m))
      kept_apart b (sequence vs) here f g k = λ a e. (
        (λ u. apart vs here (λ y m. g y (a, e, inl (u, m))) (λ y m. k y (a, e, inl (u, m)))),
        each_kept_apart (base d a.element) vs here f (λ y m. g y (a, e, inr m)) (λ y m. k y (a, e, inr m)),
      )
      kept_apart b (bag vs) here f g k = λ a e. (
        (λ u crowd y z p q same. alone y z (at_in Here y vs here p) (at_in Here z vs here q)
            (f z (crowd_pins in_sets z vs crowd q)) same),
        each_kept_apart (base d a.element) vs here (λ y m. f y (bag_inside in_sets y vs m)) (λ y m. g y (a, e, m))
            (λ y m. k y (a, e, m)),
      )

      each_kept_apart : (b : Base) (vs : Values) → EachReferenceOf Here vs → ((y : ℕ) → InBagOf in_sets y vs → Pinned y)
          → ((y : ℕ) → HasUniqueAmong s d (AnElement (StandsWithin y)) b vs → Pinned y)
          → ((y : ℕ) → HasUniqueAmong s d (Beside y) b vs → Pinned y) → KeepEachApart s d h b vs
      each_kept_apart b none here f g k = tt
      each_kept_apart b (more v vs) here f g k = (
        kept_apart b v here.0 (λ y m. f y (inl m)) (λ y m. g y (inl m)) (λ y m. k y (inl m)),
        each_kept_apart b vs here.1 (λ y m. f y (inr m)) (λ y m. g y (inr m)) (λ y m. k y (inr m)),
      )

pub gentle_pins_keep_apart : GentlePinsKeepApart
gentle_pins_keep_apart s d en rules chosen is E h pinned gentle alone one closed i m =
    every-of (KeepsSlotApart s d en h i.types) i.slots (λ x n. every-of
    (λ (k : DataType). KeepsApart s d h (base d k) x.value) (data_types s en i.types x.place) (λ k o.
    kept_apart s d h E (λ y. Among y (names is)) (λ y. IsTrue (pinned y)) alone one chosen.in_sets (base d k) x.value
    (reference_named is closed i m x n)
    (λ y p. gentle y (inl (inl (inr (inl (one_is (StandsInBag s d en chosen.in_sets y) i is m
    (one_is (λ (z : Slot). InBag chosen.in_sets y z.value) x i.slots n p)))))))
    (λ y p. gentle y (inl (inr (one_is (StandsInsideUnique s d en y) i is m (in_slot x k n o
    (AnElement (StandsWithin y)) p)))))
    (λ y p. gentle y (inr (one_is (StandsBesideItsClass s d en E y) i is m (in_slot x k n o
    (λ vs. AnElement (IsReferenceTo y) vs × AnElement (IsAnotherOfClass E y) vs) p))))))
  where
    in_slot : (x : Slot) (k : DataType) → Among x i.slots → Among k (data_types s en i.types x.place)
        → (P : Values → Type 0) → HasUnique s d P (base d k) x.value
        → OneOf (λ (z : Slot). OneOf (λ (l : DataType). HasUnique s d P (base d l) z.value)
        (data_types s en i.types z.place)) i.slots
    in_slot x k n o P p =
        one_is (λ (z : Slot). OneOf (λ (l : DataType). HasUnique s d P (base d l) z.value)
        (data_types s en i.types z.place)) x i.slots n
        (one_is (λ (l : DataType). HasUnique s d P (base d l) x.value) k (data_types s en i.types x.place) o p)
