-- The elements of values of LIST and ARRAY OF UNIQUE (ISO 10303-11, 8.2.1 and 8.2.2).
use Rattle.std.specs.Prelude.{◌≡◌, ◌≢◌, ℕ, Bool, true, Some, ◌⊎◌}
use Rattle.step_values.specs.Values.{Value, leaf, reference, typed, sequence, bag, Values, none, more}
use Rattle.express_syntax.specs.Schemas.{Schema, DataType}
use Rattle.schema_semantics.specs.Names.{OneOf}
use Rattle.conformance.specs.Bases.{Aggregate, Base, aggregate, Domain, base}
use Rattle.conformance.specs.ParameterFits.{inner}
use Rattle.conformance.specs.Entities.{Entities, data_types}
use Rattle.conformance.specs.Populations.{Slot, Instance}
use Rattle.conformance.specs.SeparatingMaps.{Occurs, OccursIn}

-- `P` holds of one of the elements.
abbrev pub AnElement : (Value → Type 0) → Values → Type 0
AnElement P none = ⊥
AnElement P (more v vs) = P v ⊎ AnElement P vs

-- The value is a reference to `y`.
abbrev pub IsReferenceTo : ℕ → Value → Type 0
IsReferenceTo y v = v ≡ reference y

-- `y` occurs inside the value, which isn't a reference itself.
abbrev pub StandsWithin : ℕ → Value → Type 0
StandsWithin y (leaf a) = ⊥
StandsWithin y (reference z) = ⊥
StandsWithin y (typed n v) = Occurs y v
StandsWithin y (sequence vs) = OccursIn y vs
StandsWithin y (bag vs) = OccursIn y vs

-- The value is a reference to another instance, in the class of `y`.
abbrev pub IsAnotherOfClass : (ℕ → ℕ → Bool) → ℕ → Value → Type 0
IsAnotherOfClass E y v = (z : ℕ) × IsReferenceTo z v × (z ≢ y) × (E y z ≡ true)

module _ (s : Schema) (d : Domain) where
  -- `P` holds of the elements of a LIST or ARRAY OF UNIQUE, which is the value itself or occurs in
  -- it at any depth. `b` is the data type by which the value is read. A SET or BAG doesn't count:
  -- its value is a bag, whatever its data type says.
  abbrev mutual
    pub HasUnique : (Values → Type 0) → Base → Value → Type 0
    HasUnique P b (leaf a) = ⊥
    HasUnique P b (reference y) = ⊥
    HasUnique P b (typed word v) = (c : Base) × (inner s d b word ≡ Some c) × HasUnique P c v
    HasUnique P b (sequence vs) =
        (a : Aggregate) × (b ≡ aggregate a) × (((a.unique ≡ true) × P vs) ⊎ HasUniqueAmong P (base d a.element) vs)
    HasUnique P b (bag vs) = (a : Aggregate) × (b ≡ aggregate a) × HasUniqueAmong P (base d a.element) vs

    pub HasUniqueAmong : (Values → Type 0) → Base → Values → Type 0
    HasUniqueAmong P b none = ⊥
    HasUniqueAmong P b (more v vs) = HasUnique P b v ⊎ HasUniqueAmong P b vs

  -- `P` holds of the elements of a LIST or ARRAY OF UNIQUE in the value of an attribute of `i`, by
  -- one of the data types with which the attribute is declared and redeclared.
  abbrev pub HasUniqueValue : Entities → (Values → Type 0) → Instance → Type 0
  HasUniqueValue en P i =
      OneOf (λ (x : Slot). OneOf (λ (k : DataType). HasUnique P (base d k) x.value) (data_types s en i.types x.place))
      i.slots
