-- The attributes that an entity declares, by name.
use Rattle.std.specs.Prelude.{ℕ, Bool, false, ◌||◌, List, [], Option, None, Some, bytes_eq, slice_get}
use Rattle.std.specs.List.{list_any}
use Rattle.graphs.specs.Graphs.{Graph, next}
use Rattle.express_syntax.specs.Schemas.{Schema, Declaration, type, entity, skipped, Entity, Attribute, own, redeclared}
use Rattle.schema_semantics.specs.Names.{Name, IsEntityAt, IsKindOf, Among, attribute_names, explicit_names}
use Rattle.schema_explicit_attributes.specs.declared.own_attributes.Meant.{Meant}
use Rattle.schema_explicit_attributes.specs.declared.own_attributes.Meant.TheVariants.{All, Explicit}

-- Whether a is among the names.
abbrev pub includes : List Name → Name → Bool
includes names a = list_any (λ n. bytes_eq n a) names

-- Whether an attribute has the name a and isn't a redeclaration.
abbrev pub is_own : Name → Attribute → Bool
is_own a (own n) = bytes_eq n a
is_own a (redeclared q n) = false

-- The names of the attributes of an entity that m selects.
abbrev pub names_meant : Meant → Entity → List Name
names_meant All e = attribute_names e
names_meant Explicit e = explicit_names e

abbrev pub names_in : Meant → Declaration → List Name
names_in m (type t) = []
names_in m (entity e) = names_meant m e
names_in m (skipped p) = []

-- Whether the declaration, if any, declares an attribute with the name a.
abbrev pub declares_in : Meant → Name → Option Declaration → Bool
declares_in m a None = false
declares_in m a (Some d) = includes (names_in m d) a

abbrev pub declares_at : Schema → Meant → Name → ℕ → Bool
declares_at s m a i = declares_in m a (slice_get s.declarations i)

-- Whether the declaration i or one of its proper supertypes declares an attribute with the name a.
abbrev pub has_meant : Schema → Graph → Meant → Name → ℕ → Bool
has_meant s above m a i = declares_at s m a i || list_any (declares_at s m a) (next above i)

-- q declares or inherits an attribute with the name a (ISO 10303-11, 9.2.3.3).
abbrev pub HasMeant : Schema → Meant → Name → Name → Type 0
HasMeant s m q a =
    (p : Name) × IsKindOf s q p × (e : Entity) × IsEntityAt s p e × Among a (names_meant m e)
