-- The declarations and redeclarations of explicit attributes, by number
-- (ISO 10303-11, 9.2.1 and 9.2.3.4).
use Rattle.std.specs.Prelude.{◌≡◌, ℕ, ◌==◌, Bool, List, [], Some, map, slice_get, get_or, ◌↔◌, IsTrue}
use Rattle.std.specs.List.{filter}
use Rattle.graphs.specs.Graphs.{graph_of, next, has}
use Rattle.express_syntax.specs.Schemas.{Schema, DataType, Entity, Explicit}
use Rattle.schema_semantics.specs.Names.{Name, Among, IsEntity, IsEntityAt}
use Rattle.schema_semantics.specs.Attributes.{Place}
use Rattle.schema_names.specs.Numbers.{HasNumber}
use Rattle.schema_explicit_attributes.specs.Places.{all_places}
use Rattle.conformance.specs.Entities.{Entities, AreEntities, AreThose, DeclaresSo, RedeclaresDerived}
use Rattle.schema_underlying_types.specs.BaseViews.{type_at}
use Rattle.schema_underlying_types.specs.Tables.{NamesKnownType}
use Rattle.schema_redeclarations.specs.declared.uses.AttributeUse.{AttributeUse}
use Rattle.schema_redeclarations.specs.declared.uses.Uses.{Uses}

-- q is the number of the explicit attribute p.
abbrev pub HasPlace : Schema → Place → ℕ → Type 0
HasPlace s p q = slice_get (all_places s) q ≡ Some p

-- The uses of one explicit attribute.
abbrev pub of_place : ℕ → List AttributeUse → List AttributeUse
of_place q us = filter (λ (u : AttributeUse). u.place == q) us

abbrev pub seen : Schema → AttributeUse → DataType × Bool
seen s u = (type_at s u.data_type, u.is_optional)

abbrev pub said : Explicit → DataType × Bool
said x = (x.data_type, x.optional)

-- The uses of a declaration.
abbrev pub uses_at : Uses → ℕ → List AttributeUse
uses_at t i = get_or (map (λ v. v.items) t.explicit.items) i []

-- There are functions from entities and explicit attributes to the entity's declarations of the
-- attribute, and to whether the entity redeclares the attribute as derived.
pub record AreSaid (s : Schema) : Type 0 where
  pub declarations : Name → Place → List Explicit
  pub derives : Name → Place → Bool
  pub declared : (n : Name) (e : Entity) → IsEntityAt s n e → (p : Place)
      → AreThose (DeclaresSo s e p) e.explicits (declarations n p)
  pub derived : (n : Name) (p : Place) → IsTrue (derives n p) ↔ RedeclaresDerived s n p

-- The rows agree with every meaning of the entities (`Entities`): they list the declarations of
-- each explicit attribute, and the explicit attributes that are redeclared as derived.
pub record AreUses (s : Schema) (t : Uses) : Type 0 where
  pub exists : AreSaid s
  pub explicit : (en : Entities) → AreEntities s en → (n : Name) (i : ℕ) → IsEntity s n → HasNumber s n i
      → (p : Place) (q : ℕ) → HasPlace s p q
      → map (seen s) (of_place q (uses_at t i)) ≡ map said (en.declarations n p)
  pub derived : (en : Entities) → AreEntities s en → (n : Name) (i : ℕ) → HasNumber s n i → (p : Place) (q : ℕ)
      → HasPlace s p q → has (next (graph_of t.derived.items) i) q ≡ en.derives n p
  -- The data types of uses are known.
  pub known : (i : ℕ) (u : AttributeUse) → Among u (uses_at t i) → NamesKnownType s (type_at s u.data_type)
