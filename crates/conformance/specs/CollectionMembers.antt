-- The instances that occur in SETs and BAGs, and in what is OF UNIQUE (ISO 10303-11, 8.2).
use Rattle.std.specs.Prelude.{◌≡◌, ℕ, Bool, true, not, ◌||◌, cond, Some, ◌⊎◌}
use Rattle.step_values.specs.Values.{Value, leaf, reference, typed, sequence, bag, Values, none, more, is_crowd}
use Rattle.express_syntax.specs.Schemas.{Schema, DataType}
use Rattle.schema_semantics.specs.Names.{OneOf}
use Rattle.conformance.specs.Bases.{Aggregate, Base, aggregate, Domain, base}
use Rattle.conformance.specs.ParameterFits.{inner}
use Rattle.conformance.specs.Entities.{Entities, data_types}
use Rattle.conformance.specs.Populations.{Slot, Instance}
use Rattle.conformance.specs.SeparatingMaps.{OccursIn}

-- whether a SET or BAG of these values pins what occurs in it: it does if it has more than one, or if
-- nothing in a SET or BAG may be merged
abbrev pub pins_members : Bool → Values → Bool
pins_members in_sets vs = not in_sets || is_crowd vs

module _ (in_sets : Bool) where
  -- `y` occurs, at any depth, in a SET or BAG that pins it.
  abbrev mutual
    pub InBag : ℕ → Value → Type 0
    InBag y (leaf a) = ⊥
    InBag y (reference z) = ⊥
    InBag y (typed n v) = InBag y v
    InBag y (sequence vs) = InBagOf y vs
    InBag y (bag vs) = cond (pins_members in_sets vs) (OccursIn y vs) (InBagOf y vs)

    pub InBagOf : ℕ → Values → Type 0
    InBagOf y none = ⊥
    InBagOf y (more v vs) = InBag y v ⊎ InBagOf y vs

module _ (s : Schema) (d : Domain) where
  -- `y` occurs, at any depth, in a LIST or ARRAY OF UNIQUE. `b` is the data type by which the value
  -- is read.
  abbrev mutual
    pub InUnique : ℕ → Base → Value → Type 0
    InUnique y b (leaf a) = ⊥
    InUnique y b (reference z) = ⊥
    InUnique y b (typed word v) = (c : Base) × (inner s d b word ≡ Some c) × InUnique y c v
    InUnique y b (sequence vs) =
        (a : Aggregate) × (b ≡ aggregate a)
        × (((a.unique ≡ true) × OccursIn y vs) ⊎ InUniqueOf y (base d a.element) vs)
    InUnique y b (bag vs) = (a : Aggregate) × (b ≡ aggregate a) × InUniqueOf y (base d a.element) vs

    pub InUniqueOf : ℕ → Base → Values → Type 0
    InUniqueOf y b none = ⊥
    InUniqueOf y b (more v vs) = InUnique y b v ⊎ InUniqueOf y b vs

  module _ (en : Entities) where
    -- `y` occurs in a SET or BAG that pins it, in the value of an attribute of `i`.
    abbrev pub StandsInBag : Bool → ℕ → Instance → Type 0
    StandsInBag in_sets y i = OneOf (λ (x : Slot). InBag in_sets y x.value) i.slots

    -- `y` occurs in a LIST or ARRAY OF UNIQUE in the value of an attribute of `i`, by one of the
    -- data types with which the attribute is declared and redeclared.
    abbrev pub StandsInUnique : ℕ → Instance → Type 0
    StandsInUnique y i =
        OneOf (λ (x : Slot). OneOf (λ (k : DataType). InUnique y (base d k) x.value) (data_types s en i.types x.place))
        i.slots
