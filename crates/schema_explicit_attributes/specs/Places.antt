-- Explicit attributes by number (ISO 10303-11, 9.2.1.1).
use Rattle.std.specs.Prelude.{◌≡◌, ℕ, List, [], ◌∷◌, ◌++◌, map, flat_map}
use Rattle.graphs.specs.Graphs.{Graph, next}
use Rattle.express_syntax.specs.ExpressionViews.{capitals}
use Rattle.express_syntax.specs.Schemas.{Schema, Declaration, type, entity, skipped, Attribute, Explicit}
use Rattle.schema_semantics.specs.Names.{Name, own_names, IsEntity}
use Rattle.schema_semantics.specs.Attributes.{Place, own_places, IsPlaces}
use Rattle.schema_names.specs.Numbers.{HasNumber, AreAt, AreNumberRowsOf}
use Rattle.schema_explicit_attributes.specs.declared.attributes.Place.{Place as Attributed}

abbrev pub places_of : List Attributed → List Place
places_of xs = map (λ (x : Attributed). (capitals x.entity.now, capitals x.attribute.now)) xs

-- The own explicit attributes of an entity; empty for other declarations.
abbrev pub places_in : Declaration → List Place
places_in (type t) = []
places_in (entity e) = own_places e
places_in (skipped p) = []

-- The explicit attributes of a schema, in the order of the text.
abbrev pub all_places : Schema → List Place
all_places s = flat_map places_in s.declarations

-- Each row has the numbers of the own explicit attributes of its declaration.
abbrev pub ArePlaceRows : List Place → List Declaration → Graph → Type 0
ArePlaceRows all ds rows = AreNumberRowsOf places_in all ds rows

-- The list is extended by the attributes `ps`, and the row by their numbers.
pub record Adds (old : List Place) (row : List ℕ) (ps new : List Place) (after : List ℕ) : Type 0 where
  pub places : new ≡ old ++ ps
  pub numbers : (qs : List Place) → AreAt old row qs → AreAt new after (qs ++ ps)

-- The explicit attribute that an entity declares, unless it is a redeclaration.
abbrev pub of_attribute : Name → Attribute → List Place
of_attribute e x = map (λ (n : Name). (e, n)) (own_names (x ∷ []))

abbrev pub of_explicit : Name → Explicit → List Place
of_explicit e x = map (λ (n : Name). (e, n)) (own_names x.attributes)

-- The row of each entity has the numbers of the explicit attributes of its instances, in order.
abbrev pub HavePlaces : Schema → Graph → Type 0
HavePlaces s rows =
    (n : Name) (i : ℕ) → IsEntity s n → HasNumber s n i
    → (ps : List Place) × IsPlaces s n ps × AreAt (all_places s) (next rows i) ps
