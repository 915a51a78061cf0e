-- Laws of the meaning of a schema, whatever the schema.
use Rattle.std.specs.Prelude.{◌≡◌, ℕ, ◌<◌, ◌↔◌, List}
use Rattle.std.specs.List.{IsDistinct}
use Rattle.express_syntax.specs.Schemas.{Schema, Declaration, Entity, own, Inverse}
use Rattle.express_syntax.specs.declared.fault.NameFault.{NameFault}
use Rattle.express_syntax.specs.declared.fault.NameFault.TheVariants.{DuplicateName}
use Rattle.schema_semantics.specs.Names.{Name, Among, listed, entities, IsEntity, IsSubtypeOf, IsKindOf, DeclaresExplicit, HasAttribute}
use Rattle.schema_semantics.specs.Faults.{IsFault, IsFreeOf, IsResolved}
use Rattle.schema_semantics.specs.Attributes.{Place, same_place, IsPlaces, IsOrigin, IsInverted, Derivation}
use Rattle.schema_semantics.specs.Parts.{Unchecked, AreUnchecked}
use Rattle.schema_semantics.specs.Ranks.{Uses, IsSetAside, AreAttributeRanks}

-- Being a kind of an entity is reflexive and transitive.
abbrev pub KindsAreOrdered : Type 0
KindsAreOrdered =
    (s : Schema) → ((a : Name) → IsKindOf s a a)
    × ((a b c : Name) → IsKindOf s a b → IsKindOf s b c → IsKindOf s a c)

-- If the names are resolved, no two entities are kinds of each other.
abbrev pub KindsAreApart : Type 0
KindsAreApart = (s : Schema) → IsResolved s → (a b : Name) → IsKindOf s a b → IsKindOf s b a → a ≡ b

-- Only SUBTYPE OF decides which entity is a kind of which.
abbrev pub SupertypesDecideKinds : Type 0
SupertypesDecideKinds =
    (s t : Schema) → ((a b : Name) → IsSubtypeOf s a b ↔ IsSubtypeOf t a b)
    → (a b : Name) → IsKindOf s a b ↔ IsKindOf t a b

-- The order of declarations doesn't decide which entity is a kind of which: schemas with the same
-- declarations, without duplicate names, have the same kinds.
abbrev pub OrderDecidesNoKinds : Type 0
OrderDecidesNoKinds =
    (s t : Schema) → IsFreeOf s DuplicateName
    → ((d : Declaration) → Among d s.declarations ↔ Among d t.declarations)
    → (a b : Name) → IsKindOf s a b ↔ IsKindOf t a b

-- A schema has at most one fault. It has none if its names are resolved, and one if they aren't.
abbrev pub FaultsAreOne : Type 0
FaultsAreOne =
    (s : Schema) → ((f g : NameFault) (m n : Name) → IsFault s f m → IsFault s g n → (f ≡ g) × (m ≡ n))
    × ((f : NameFault) (n : Name) → IsFault s f n → IsResolved s → ⊥)
    × (((f : NameFault) (n : Name) → IsFault s f n → ⊥) → (IsResolved s → ⊥) → ⊥)

-- No attribute of an entity occurs twice among its explicit attributes.
abbrev pub PlacesStandOnce : Type 0
PlacesStandOnce =
    (s : Schema) (n : Name) (ps : List Place) → IsPlaces s n ps → IsDistinct same_place ps

-- Each explicit attribute of an entity is declared by the entity or by a supertype.
abbrev pub PlacesAreExplicit : Type 0
PlacesAreExplicit =
    (s : Schema) (n : Name) (ps : List Place) (p a : Name) → IsResolved s → IsPlaces s n ps
    → Among (p, a) ps → IsKindOf s n p × DeclaresExplicit s p a

-- Each explicit attribute that an entity or a supertype declares is among its explicit attributes.
abbrev pub ExplicitHavePlaces : Type 0
ExplicitHavePlaces =
    (s : Schema) (n : Name) (ps : List Place) (p a : Name) → IsPlaces s n ps
    → IsKindOf s n p → DeclaresExplicit s p a → Among (p, a) ps

-- An entity has exactly one list of explicit attributes.
abbrev pub PlacesAreOne : Type 0
PlacesAreOne =
    (s : Schema) (n : Name) → IsResolved s → IsEntity s n
    → (ps : List Place) × IsPlaces s n ps × ((qs : List Place) → IsPlaces s n qs → qs ≡ ps)

-- `SELF\q.a` means exactly one attribute, if `q` has one with this name.
abbrev pub OriginsAreOne : Type 0
OriginsAreOne =
    (s : Schema) (q a : Name) → IsResolved s → HasAttribute s q a
    → (p : Name) × IsOrigin s q a p × ((r : Name) → IsOrigin s q a r → r ≡ p)

-- An inverse attribute that isn't a redeclaration inverts exactly one attribute.
abbrev pub InvertedAreOne : Type 0
InvertedAreOne =
    (s : Schema) (e : Entity) (i : Inverse) (n : Name) → IsResolved s → Among e (entities s)
    → Among i (listed e.inverses) → i.attribute ≡ own n
    → (p : Name) × IsInverted s i p × ((q : Name) → IsInverted s i q → q ≡ p)

-- A derived attribute has a lesser rank than those that may use it.
abbrev pub AttributeRanksFall : Type 0
AttributeRanksFall =
    (s : Schema) (rank : Derivation → ℕ) (d u : Derivation) → AreAttributeRanks s rank → (IsSetAside s d → ⊥)
    → Uses s d u → rank u < rank d

-- A derived attribute that isn't set aside has one rank.
abbrev pub RanksAreOne : Type 0
RanksAreOne =
    (s : Schema) (rank other : Derivation → ℕ) (d : Derivation) → AreAttributeRanks s rank → AreAttributeRanks s other
    → (IsSetAside s d → ⊥) → rank d ≡ other d

-- A schema has one list of unchecked parts.
abbrev pub UncheckedAreOne : Type 0
UncheckedAreOne = (s : Schema) (us vs : List Unchecked) → AreUnchecked s us → AreUnchecked s vs → us ≡ vs
