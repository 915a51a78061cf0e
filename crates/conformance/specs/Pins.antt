-- The instances that keep their identity. They are pinned: no merge replaces one by another.
use Rattle.std.specs.Prelude.{◌≡◌, ℕ, Bool, false, IsTrue, List, Option, Some, None, ◌⊎◌}
use Rattle.step_values.specs.Values.{Value}
use Rattle.express_syntax.specs.Schemas.{Schema}
use Rattle.schema_semantics.specs.Names.{Name, OneOf}
use Rattle.schema_semantics.specs.Attributes.{Place}
use Rattle.conformance.specs.Choices.{MergeOptions}
use Rattle.conformance.specs.Bases.{Domain}
use Rattle.conformance.specs.ParameterFits.{is_listed}
use Rattle.conformance.specs.Entities.{Entities, is_leaf}
use Rattle.conformance.specs.Populations.{Instance, slot_at, types_at}
use Rattle.conformance.specs.SeparatingMaps.{Occurs}
use Rattle.conformance.specs.CollectionMembers.{StandsInBag, StandsInUnique}
use Rattle.conformance.specs.Rules.{UniqueRule, InverseAttribute, Rules}
use Rattle.conformance.specs.Elements.{AnElement, IsReferenceTo, StandsWithin, IsAnotherOfClass, HasUniqueValue}

-- One of the types that has no subtype among them isn't chosen.
abbrev pub HasUnchosenLeaf : Schema → Entities → List Name → List Name → Type 0
HasUnchosenLeaf s en chosen types = OneOf (λ e. IsTrue (is_leaf s en types e) × (is_listed e chosen ≡ false)) types

abbrev pub OccursAt : ℕ → Option Value → Type 0
OccursAt y None = ⊥
OccursAt y (Some v) = Occurs y v

-- The uniqueness rule concerns `y`: `y` is an instance of the rule's entity or of a subtype, or
-- such an instance refers to `y` in an attribute that the rule names. A rule that isn't checked
-- counts too.
abbrev pub IsInKey : List Instance → ℕ → UniqueRule → Type 0
IsInKey is y u =
    IsTrue (is_listed u.entity (types_at is y))
    ⊎ OneOf (λ (x : Instance). IsTrue (is_listed u.entity x.types)
    × OneOf (λ (p : Place). OccursAt y (slot_at x.slots p)) u.places) is

-- `x` is an instance of the referring entity, its value of the inverted attribute refers to `z`,
-- and `z` is an instance of the entity that declares the inverse attribute.
abbrev pub RefersByInverse : InverseAttribute → Instance → Instance → Type 0
RefersByInverse i x z =
    IsTrue (is_listed i.referrer x.types) × OccursAt z.name (slot_at x.slots i.inverted)
    × IsTrue (is_listed i.entity z.types)

-- `y` is on a side of the inverse attribute: it refers to an instance, or an instance refers to it,
-- by the inverted attribute.
abbrev pub IsInverseSide : List Instance → ℕ → InverseAttribute → Type 0
IsInverseSide is y i =
    OneOf (λ (x : Instance). OneOf (λ (z : Instance). RefersByInverse i x z × ((x.name ≡ y) ⊎ (z.name ≡ y))) is) is

module _ (s : Schema) (d : Domain) (en : Entities) where
  -- `y` occurs inside an element of a LIST or ARRAY OF UNIQUE of `i`, and isn't that element
  -- itself.
  abbrev pub StandsInsideUnique : ℕ → Instance → Type 0
  StandsInsideUnique y i = HasUniqueValue s d en (AnElement (StandsWithin y)) i

  -- `y` and another instance of its class are elements of one LIST or ARRAY OF UNIQUE of `i`.
  abbrev pub StandsBesideItsClass : (ℕ → ℕ → Bool) → ℕ → Instance → Type 0
  StandsBesideItsClass E y i =
      HasUniqueValue s d en (λ vs. AnElement (IsReferenceTo y) vs × AnElement (IsAnotherOfClass E y) vs) i

  -- `y` and `z` are elements of the same LIST or ARRAY OF UNIQUE of `i`.
  abbrev pub StandTogether : ℕ → ℕ → Instance → Type 0
  StandTogether y z i = HasUniqueValue s d en (λ vs. AnElement (IsReferenceTo y) vs × AnElement (IsReferenceTo z) vs) i

  module _ (rules : Rules) (chosen : MergeOptions) (is : List Instance) where
    -- A rule that doesn't concern the elements of a LIST or ARRAY OF UNIQUE pins `y`. One of its
    -- types that has no subtype among them isn't chosen; or `y` occurs in a SET or BAG that pins it;
    -- or a uniqueness rule concerns it; or it is on a side of an inverse attribute.
    abbrev pub IsPinnedElsewhere : ℕ → Type 0
    IsPinnedElsewhere y =
        HasUnchosenLeaf s en chosen.entities (types_at is y)
        ⊎ (OneOf (StandsInBag s d en chosen.in_sets y) is
        ⊎ (OneOf (IsInKey is y) rules.uniques ⊎ OneOf (IsInverseSide is y) rules.inverses))

    -- The weak rules pin `y`.
    abbrev pub IsWeaklyPinned : ℕ → Type 0
    IsWeaklyPinned y = IsPinnedElsewhere y ⊎ OneOf (StandsInsideUnique y) is

    -- The gentle rules pin `y`. The relation `E` says which instances are in the same class.
    abbrev pub IsGentlyPinned : (ℕ → ℕ → Bool) → ℕ → Type 0
    IsGentlyPinned E y = IsWeaklyPinned y ⊎ OneOf (StandsBesideItsClass E y) is

    -- The plain rules pin `y`: they pin each instance that occurs in a LIST or ARRAY OF UNIQUE.
    abbrev pub IsPlainlyPinned : ℕ → Type 0
    IsPlainlyPinned y = IsPinnedElsewhere y ⊎ OneOf (StandsInUnique s d en y) is
