-- Supertypes and explicit attributes, by number.
use Rattle.std.specs.Prelude.{◌≡◌, ℕ, Bool, true, List, eqb, ◌↔◌, IsTrue}
use Rattle.std.specs.List.{IsDistinct}
use Rattle.graphs.specs.Graphs.{has}
use Rattle.express_syntax.specs.ExpressionViews.{capitals}
use Rattle.express_syntax.specs.Schemas.{Schema}
use Rattle.schema_semantics.specs.Names.{Name, IsEntity, IsBelow, IsKindOf}
use Rattle.schema_semantics.specs.Attributes.{Place, IsPlaces}
use Rattle.schema_names.specs.Numbers.{HasNumber, AreAt}
use Rattle.schema_explicit_attributes.specs.declared.attributes.Place.{Place as Attributed}
use Rattle.schema_explicit_attributes.specs.Places.{all_places}

-- The numbers of the proper supertypes of the entity with the number i, each once.
pub record AreSupers (s : Schema) (i : ℕ) (row : List ℕ) : Type 0 where
  pub once : IsDistinct eqb row
  pub names : (n : Name) → HasNumber s n i → (j : ℕ) → has row j ≡ true → (m : Name) × HasNumber s m j
  pub below : (m n : Name) (j : ℕ) → HasNumber s n i → HasNumber s m j → (has row j ≡ true) ↔ IsBelow s n m

-- Whether the entity with the number i is, or is a subtype of, the one with the number j.
abbrev pub IsKind : Schema → ℕ → ℕ → Bool → Type 0
IsKind s i j is = (n m : Name) → HasNumber s n i → HasNumber s m j → IsTrue is ↔ IsKindOf s n m

-- The numbers of the explicit attributes of the entity with the number i, in order.
abbrev pub ArePlacesOf : Schema → ℕ → List ℕ → Type 0
ArePlacesOf s i row =
    (n : Name) → IsEntity s n → HasNumber s n i → (ps : List Place) × IsPlaces s n ps × AreAt (all_places s) row ps

abbrev pub place_of : Attributed → Place
place_of x = (capitals x.entity.now, capitals x.attribute.now)
