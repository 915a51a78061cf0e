-- The explicit attributes to which declared and redeclared attributes refer, by number
-- (ISO 10303-11, 9.2.1 and 9.2.3.4).
use Rattle.std.specs.Prelude.{◌≡◌, ℕ, ◌+◌, ◌<◌, Bool, true, false, List, [], ◌∷◌, ◌++◌, Option, None, Some, map, flat_map, length, slice_get, bytes_eq, ◌⊎◌, ◌↔◌}
use Rattle.graphs.specs.Graphs.{graph_of, has}
use Rattle.express_syntax.specs.Schemas.{Schema, Declaration, type, entity, skipped, Attribute, own, Explicit, Derived, DataType}
use Rattle.schema_semantics.specs.Names.{Name, OneOf, Among, listed, own_names}
use Rattle.schema_semantics.specs.Faults.{IsResolved}
use Rattle.schema_semantics.specs.Attributes.{Place, IsRedeclaration, HasFirstShape}
use Rattle.schema_names.specs.Numbers.{AreNumberRowsOf}
use Rattle.schema_names.specs.Schemas.{the_schema}
use Rattle.schema_data_types.specs.NumberedTypes.{whole_types, all_data_types}
use Rattle.schema_data_types.specs.ShapeTables.{AreShapes, IsKnown}
use Rattle.schema_explicit_attributes.specs.SupertypeLines.{HaveLines}
use Rattle.schema_explicit_attributes.specs.Places.{places_of, all_places, ArePlaceRows}
use Rattle.conformance.specs.Entities.{AreThose}
use Rattle.schema_underlying_types.specs.BaseViews.{type_at}
use Rattle.schema_redeclarations.specs.declared.uses.AttributeUse.{AttributeUse}
use Rattle.schema_redeclarations.specs.declared.uses.Sources.{Sources}
use Rattle.schema_redeclarations.specs.Uses.{HasPlace, of_place, seen, said}

-- The sources are those of a resolved schema.
pub record AreSources (c : Sources) : Type 0 where
  pub resolved : IsResolved (the_schema c.names.now)
  pub rows : AreNumberRowsOf whole_types (all_data_types (the_schema c.names.now)) (the_schema c.names.now).declarations
      (graph_of c.data_types.now.rows.items)
  pub lines : HaveLines (the_schema c.names.now) (graph_of c.lines.now)
  pub each : length c.lines.now ≡ length c.names.now.schema.now.declarations.items
  pub shapes : AreShapes (the_schema c.names.now) c.shapes.now
  pub places : places_of c.places.now ≡ all_places (the_schema c.names.now)
  pub own : ArePlaceRows (all_places (the_schema c.names.now)) (the_schema c.names.now).declarations (graph_of c.own.now)

-- The numbers are those of the explicit attributes for which P holds, and P is decided for each
-- explicit attribute.
pub record ArePlacesOf (s : Schema) (P : Place → Type 0) (ns : List ℕ) : Type 0 where
  pub decided : (p : Place) → P p ⊎ (P p → ⊥)
  pub numbers : (p : Place) (q : ℕ) → HasPlace s p q → (has ns q ≡ true) ↔ P p
  pub within : (q : ℕ) → has ns q ≡ true → q < length (all_places s)

abbrev pub at_most_one : Option ℕ → List ℕ
at_most_one None = []
at_most_one (Some q) = q ∷ []

-- Whether the explicit attribute, if any, has the name a.
abbrev pub has_name : Name → Option Place → Bool
has_name a None = false
has_name a (Some (e, b)) = bytes_eq b a

abbrev pub Redeclares : Schema → Attribute → Place → Type 0
Redeclares s y (p, a) = IsRedeclaration s y p a

-- y, in a declaration of the entity n with the data type k, refers to the attribute a of p.
abbrev pub SpeaksOf : Schema → Name → DataType → Attribute → Place → Type 0
SpeaksOf s n k y (p, a) = ((n ≡ p) × (y ≡ own a)) ⊎ (IsRedeclaration s y p a × HasFirstShape s p a k)

-- One of the attributes refers to p.
abbrev pub SpeakTogether : Schema → Name → DataType → List Attribute → Place → Type 0
SpeakTogether s n k ys p = OneOf (λ (y : Attribute). SpeaksOf s n k y p) ys

-- k is the data type with the number t, and it is known.
abbrev pub IsTypeAt : Schema → DataType → ℕ → Type 0
IsTypeAt s k t = (slice_get (all_data_types s) t ≡ Some k) × IsKnown s k

-- o is the number of the explicit attribute y, if y is an own attribute of the entity n.
abbrev pub IsOwnAt : Schema → Name → Attribute → Option ℕ → Type 0
IsOwnAt s n y o = (a : Name) → y ≡ own a → (q : ℕ) × (o ≡ Some q) × HasPlace s (n, a) q

-- From `first` on, the row has the numbers of these explicit attributes of the entity n.
abbrev pub AreOwnAt : Schema → Name → List ℕ → ℕ → List Name → Type 0
AreOwnAt s n row first names =
    (k : ℕ) (a : Name) → slice_get names k ≡ Some a
    → (q : ℕ) × (slice_get row (first + k) ≡ Some q) × HasPlace s (n, a) q

-- The names of the attributes that the declarations declare, without redeclarations.
abbrev pub names_of : List Explicit → List Name
names_of xs = flat_map (λ (x : Explicit). own_names x.attributes) xs

-- The row has the numbers of the data types of these declarations.
abbrev pub AreTypesAt : Schema → List ℕ → List Explicit → Type 0
AreTypesAt s row xs =
    (m : ℕ) (x : Explicit) → slice_get xs m ≡ Some x → (t : ℕ) × (slice_get row m ≡ Some t) × IsTypeAt s x.data_type t

-- x declares or redeclares the explicit attribute (p, a) in the entity n, as `DeclaresSo` says.
abbrev pub DeclaresBy : Schema → Name → Place → Explicit → Type 0
DeclaresBy s n (p, a) x =
    ((n ≡ p) × Among (own a) x.attributes)
    ⊎ (OneOf (λ (y : Attribute). IsRedeclaration s y p a) x.attributes × HasFirstShape s p a x.data_type)

abbrev pub use_of : ℕ → Bool → ℕ → AttributeUse
use_of k o q = record { place = q; data_type = k; is_optional = o }

-- The uses are those of these declarations of the entity n.
pub record AreUsesOf (s : Schema) (n : Name) (xs : List Explicit) (us : List AttributeUse) : Type 0 where
  pub some : (p : Place) → (ys : List Explicit) × AreThose (DeclaresBy s n p) xs ys
  pub told : (p : Place) (q : ℕ) → HasPlace s p q → (ys : List Explicit) → AreThose (DeclaresBy s n p) xs ys
      → map (seen s) (of_place q us) ≡ map said ys
  pub known : (u : AttributeUse) → Among u us → IsKnown s (type_at s u.data_type)

-- The list is extended by the uses of one declaration.
abbrev pub AddsUses : Schema → Name → Explicit → List AttributeUse → List AttributeUse → Type 0
AddsUses s n x old new = (us : List AttributeUse) × (new ≡ old ++ us) × AreUsesOf s n (x ∷ []) us

-- The uses of a declaration; empty for anything that isn't an entity.
abbrev pub AreUsesIn : Schema → Declaration → List AttributeUse → Type 0
AreUsesIn s (type t) us = us ≡ []
AreUsesIn s (entity e) us = AreUsesOf s e.name e.explicits us
AreUsesIn s (skipped p) us = us ≡ []

-- One of the derived attributes redeclares p.
abbrev pub DerivesOne : Schema → List Derived → Place → Type 0
DerivesOne s ds p = OneOf (λ (d : Derived). Redeclares s d.attribute p) ds

abbrev pub AreDerivedIn : Schema → Declaration → List ℕ → Type 0
AreDerivedIn s (type t) ns = ns ≡ []
AreDerivedIn s (entity e) ns = ArePlacesOf s (DerivesOne s (listed e.derived)) ns
AreDerivedIn s (skipped p) ns = ns ≡ []
