-- A map that is one to one on what stands in SETs and BAGs, and in what is OF UNIQUE, keeps elements apart.
use Rattle.std.specs.Prelude.{◌≡◌, ℕ, Bool}
use Rattle.std.proofs.Common.{inl, inr}
use Rattle.step_values.specs.Values.{Value, leaf, reference, typed, sequence, bag, Values, none, more}
use Rattle.express_syntax.specs.Schemas.{Schema, DataType}
use Rattle.schema_semantics.specs.Names.{OneOf}
use Rattle.schema_semantics.proofs.Lists.{every-of}
use Rattle.conformance.specs.Bases.{Base, Domain, base}
use Rattle.conformance.specs.Entities.{Entities, data_types}
use Rattle.conformance.specs.Populations.{Slot, Instance}
use Rattle.conformance.specs.SeparatingMaps.{KeepsApart, KeepEachApart}
use Rattle.conformance.specs.Images.{KeepsSlotApart, KeepsInstanceApart}
use Rattle.conformance.specs.CollectionMembers.{InBag, InBagOf, InUnique, InUniqueOf, StandsInBag, StandsInUnique}
use Rattle.conformance.proofs.Declared.{one_is}
use Rattle.conformance.proofs.There.{bag_inside, crowd_pins}

module _ (s : Schema) (d : Domain) (h : ℕ → ℕ) (in_sets : Bool) (P : ℕ → Type 0)
    (one_to_one : (y z : ℕ) → P y → P z → h y ≡ h z → y ≡ z) where
  mutual
    kept_apart : (b : Base) (v : Value) → ((y : ℕ) → InBag in_sets y v → P y) → ((y : ℕ) → InUnique s d y b v → P y)
        → KeepsApart s d h b v
    kept_apart b (leaf a) f g = tt
    kept_apart b (reference y) f g = tt
    kept_apart b (typed word v) f g = λ c e. kept_apart c v f (λ y m. g y (c, e, m))
    kept_apart b (sequence vs) f g = λ a e. (
      (λ u y z m n. one_to_one y z (g y (a, e, inl (u, m))) (g z (a, e, inl (u, n)))),
      each_kept_apart (base d a.element) vs f (λ y m. g y (a, e, inr m)),
    )
    kept_apart b (bag vs) f g = λ a e. (
      (λ u crowd y z m n. one_to_one y z (f y (crowd_pins in_sets y vs crowd m)) (f z (crowd_pins in_sets z vs crowd n))),
      each_kept_apart (base d a.element) vs (λ y m. f y (bag_inside in_sets y vs m)) (λ y m. g y (a, e, m)),
    )

    each_kept_apart : (b : Base) (vs : Values) → ((y : ℕ) → InBagOf in_sets y vs → P y)
        → ((y : ℕ) → InUniqueOf s d y b vs → P y) → KeepEachApart s d h b vs
    each_kept_apart b none f g = tt
    each_kept_apart b (more v vs) f g = (
      kept_apart b v (λ y m. f y (inl m)) (λ y m. g y (inl m)),
      each_kept_apart b vs (λ y m. f y (inr m)) (λ y m. g y (inr m)),
    )

  pub instance_kept_apart : (en : Entities) (i : Instance) → ((y : ℕ) → StandsInBag s d en in_sets y i → P y)
      → ((y : ℕ) → StandsInUnique s d en y i → P y) → KeepsInstanceApart s d en h i
  instance_kept_apart en i f g =
      every-of (KeepsSlotApart s d en h i.types) i.slots
      (λ x m. every-of (λ (k : DataType). KeepsApart s d h (base d k) x.value) (data_types s en i.types x.place)
      (λ k n. kept_apart (base d k) x.value
      (λ y in_bag. f y (one_is (λ (z : Slot). InBag in_sets y z.value) x i.slots m in_bag))
      (λ y in_unique. g y (one_is (λ (z : Slot). OneOf (λ (j : DataType). InUnique s d y (base d j) z.value)
      (data_types s en i.types z.place)) x i.slots m
      (one_is (λ (j : DataType). InUnique s d y (base d j) x.value) k (data_types s en i.types x.place) n in_unique)))))
