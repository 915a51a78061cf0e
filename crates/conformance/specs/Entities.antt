-- What a schema requires of instances: their types, and the attributes that their records have
-- (ISO 10303-11, 9.2; ISO 10303-21, 11.2).
use Rattle.std.specs.Prelude.{◌≡◌, ℕ, ◌==◌, ◌&&◌, not, nat_lt, Bool, false, cond, List, [], ◌∷◌, length, map, flat_map, Option, Some, ◌⊎◌, ◌↔◌, IsTrue, bytes_eq}
use Rattle.std.specs.List.{list_any, list_all, filter}
use Rattle.step_literals.specs.Words.{upper}
use Rattle.step_structures.specs.Trees as trees
use Rattle.step_structures.specs.Trees.{Trees, Record, Form, internal, external}
use Rattle.express_syntax.specs.Schemas.{Schema, Declaration, entity, Entity, own, Attribute, Explicit, Derived, DataType, Supertype, of_one_of}
use Rattle.schema_semantics.specs.Names.{Name, OneOf, Among, listed, entities, declaration_of, IsEntityAt, IsKindOf}
use Rattle.schema_semantics.specs.Attributes.{Place, own_places, ArePlaces, IsRedeclaration, HasFirstShape}
use Rattle.conformance.specs.ParameterFits.{entity_names, is_listed, is_entity, count}

-- The meaning of a schema's entities, as functions.
pub record Entities : Type 0 where
  -- The first entity is the second, or a subtype of it at any depth.
  pub is_kind_of : Name → Name → Bool
  -- The explicit attributes of an entity, inherited ones first.
  pub places : Name → List Place
  -- The declarations of an entity that declare this attribute, or redeclare it as explicit.
  pub declarations : Name → Place → List Explicit
  -- The entity redeclares this attribute as derived.
  pub derives : Name → Place → Bool

-- `ys` are the elements of `xs` for which `P` holds, in order.
abbrev pub AreThose : {A : Type 0} → (A → Type 0) → List A → List A → Type 0
AreThose P [] ys = ys ≡ []
AreThose P (x ∷ xs) ys = (P x × (zs : List _) × (ys ≡ x ∷ zs) × AreThose P xs zs) ⊎ ((P x → ⊥) × AreThose P xs ys)

-- By the declaration `x` the entity `e` declares the explicit attribute `a` of `p`: `e` is `p`, or
-- `x` redeclares the attribute with a data type that has the shape of the first. A redeclaration
-- with a data type of another shape isn't checked (ISO 10303-11, 9.2.3.4).
abbrev pub DeclaresSo : Schema → Entity → Place → Explicit → Type 0
DeclaresSo s e (p, a) x =
    ((e.name ≡ p) × Among (own a) x.attributes)
    ⊎ (OneOf (λ (y : Attribute). IsRedeclaration s y p a) x.attributes × HasFirstShape s p a x.data_type)

abbrev pub RedeclaresDerived : Schema → Name → Place → Type 0
RedeclaresDerived s n (p, a) =
    (e : Entity) × IsEntityAt s n e × OneOf (λ (d : Derived). IsRedeclaration s d.attribute p a) (listed e.derived)

-- These functions are the meaning of the entities of `s`.
pub record AreEntities (s : Schema) (en : Entities) : Type 0 where
  pub kinds : (a b : Name) → IsTrue (en.is_kind_of a b) ↔ IsKindOf s a b
  pub places : ArePlaces s en.places
  pub declarations : (n : Name) (e : Entity) → IsEntityAt s n e → (p : Place)
      → AreThose (DeclaresSo s e p) e.explicits (en.declarations n p)
  pub derives : (n : Name) (p : Place) → IsTrue (en.derives n p) ↔ RedeclaresDerived s n p

abbrev pub own_in : Option Declaration → List Place
own_in (Some (entity e)) = own_places e
own_in d = []

-- the explicit attributes that an entity itself declares
abbrev pub own_places_of : Schema → Name → List Place
own_places_of s n = own_in (declaration_of s.declarations n)

abbrev pub is_abstract_in : Option Declaration → Bool
is_abstract_in (Some (entity e)) = e.is_abstract
is_abstract_in d = false

abbrev pub is_abstract : Schema → Name → Bool
is_abstract s n = is_abstract_in (declaration_of s.declarations n)

abbrev pub one_of_in : Supertype → List (List Name)
one_of_in (of_one_of names) = names ∷ []
one_of_in x = []

-- the operands of each ONEOF that is checked, in the order of the text (ISO 10303-11, 9.2.5)
abbrev pub one_ofs : Schema → List (List Name)
one_ofs s = flat_map (λ (e : Entity). one_of_in e.supertype) (entities s)

-- the records of an instance
abbrev pub records : Form → List Record
records (internal r) = r ∷ []
records (external rs) = rs

-- the entity that a record names
abbrev pub named_entity : Record → Name
named_entity r = upper r.keyword

abbrev pub joined_trees : Trees → Trees → Trees
joined_trees trees.none ys = ys
joined_trees (trees.one x xs) ys = trees.one x (joined_trees xs ys)

-- The parameters of all records, in the order of the text.
abbrev pub parameters : List Record → Trees
parameters [] = trees.none
parameters (r ∷ rs) = joined_trees r.values (parameters rs)

-- The number of elements of `xs` that pass the test.
abbrev pub how_many : {A : Type 0} → (A → Bool) → List A → ℕ
how_many test xs = length (filter test xs)

module _ (s : Schema) (en : Entities) where
  -- The types of an instance, in the order of the schema (ISO 10303-21, 11.2.5):
  -- - with the internal mapping, the entity of its record and all supertypes of that entity;
  -- - with the external mapping, the entities of its records.
  abbrev pub types_of : Form → List Name
  types_of (internal r) = filter (en.is_kind_of (named_entity r)) (entity_names s)
  types_of (external rs) = filter (λ e. is_listed e (map named_entity rs)) (entity_names s)

  -- The explicit attributes whose values the records of an instance have to hold, in order.
  abbrev pub places_of : Form → List Place
  places_of (internal r) = en.places (named_entity r)
  places_of (external rs) = flat_map (λ r. own_places_of s (named_entity r)) rs

  -- No other of these types is a subtype of `e`.
  abbrev pub is_leaf : List Name → Name → Bool
  is_leaf types e = not (list_any (λ t. en.is_kind_of t e && not (bytes_eq t e)) types)

  abbrev pub unknown_entities : Form → ℕ
  unknown_entities f = how_many (λ r. not (is_entity s (named_entity r))) (records f)

  abbrev pub abstract_leaves : List Name → ℕ
  abstract_leaves types = how_many (λ e. is_leaf types e && is_abstract s e) types

  -- The number of supertypes of these types that aren't among these types.
  abbrev pub missing_supertypes : List Name → ℕ
  missing_supertypes types =
      how_many (λ e. list_any (λ t. en.is_kind_of t e) types && not (is_listed e types)) (entity_names s)

  -- The number of ONEOFs of which two operands are among the types.
  abbrev pub broken_one_ofs : List Name → ℕ
  broken_one_ofs types = how_many (λ names. nat_lt 1 (how_many (λ t. is_listed t names) types)) (one_ofs s)

  abbrev pub has_count : List Place → Record → Bool
  has_count places r = count r.values == length places

  -- The number of records whose number of parameters isn't the number of attributes that they have
  -- to hold.
  abbrev pub wrong_counts : Form → ℕ
  wrong_counts (internal r) = cond (has_count (en.places (named_entity r)) r) 0 1
  wrong_counts (external rs) = how_many (λ r. not (has_count (own_places_of s (named_entity r)) r)) rs

  -- The declarations and redeclarations of an explicit attribute by these types, in the order of
  -- the types.
  abbrev pub declarations_by : List Name → Place → List Explicit
  declarations_by types p = flat_map (λ t. en.declarations t p) types

  abbrev pub is_derived : List Name → Place → Bool
  is_derived types p = list_any (λ t. en.derives t p) types

  abbrev pub is_optional : List Name → Place → Bool
  is_optional types p = list_all (λ (x : Explicit). x.optional) (declarations_by types p)

  abbrev pub data_types : List Name → Place → List DataType
  data_types types p = map (λ (x : Explicit). x.data_type) (declarations_by types p)
