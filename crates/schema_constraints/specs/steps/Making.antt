-- Making the rows of the tables, one after the other.
use Rattle.std.specs.Prelude.{◌≡◌, ℕ, List, [], ◌++◌, map, filter, Option, Some, ◌↔◌}
use Rattle.express_syntax.specs.Schemas.{Schema, Declaration, type, entity, skipped, Entity, Inverse, Unique, Bound}
use Rattle.express_syntax.specs.Clauses.{IsInteger}
use Rattle.schema_semantics.specs.Names.{Name, Among, listed, IsEntity, DeclaresExplicit}
use Rattle.schema_semantics.specs.Attributes.{Place, IsInverted}
use Rattle.schema_semantics.specs.Parts.{label_of}
use Rattle.schema_names.specs.Numbers.{HasNumber, IsAt}
use Rattle.schema_redeclarations.specs.Uses.{HasPlace}
use Rattle.conformance.specs.Bases.{Domain, IsDomain, IsCheckedBound}
use Rattle.conformance.specs.Rules.{UniquenessStatement, statements_from, IsUniqueRule, is_own, IsInverseAttribute, InTurn}
use Rattle.schema_constraints.specs.declared.inverses.InverseAttribute.{InverseAttribute}
use Rattle.schema_constraints.specs.declared.uniques.UniqueRule.{UniqueRule}
use Rattle.schema_constraints.specs.RuleViews.{inverse_seen, unique_seen, IsNumberedInverse, IsNumberedUnique}

-- The list is extended by a row for each item.
abbrev pub Adds : {A B : Type 0} → (A → B → Type 0) → List A → List B → List B → Type 0
Adds {A} {B} R xs old new = (rows : List B) × (new ≡ old ++ rows) × InTurn R xs rows

-- The items of an entity; empty for other declarations.
abbrev pub of_entity : {A : Type 0} → (Entity → List A) → Declaration → List A
of_entity f (type t) = []
of_entity f (entity e) = f e
of_entity f (skipped p) = []

-- d has the integers of the bounds that are checked.
abbrev pub AreBounds : Domain → Type 0
AreBounds d = (b : Bound) → IsCheckedBound (IsInteger b) (d.bound b)

-- o is the number of the explicit attribute p, if any.
abbrev pub IsNumberOf : Schema → Place → Option ℕ → Type 0
IsNumberOf s p o = (q : ℕ) → (o ≡ Some q) ↔ HasPlace s p q

-- The referring entity and the inverted attribute of an inverse attribute exist.
pub record IsKnownInverse (s : Schema) (x : Inverse) : Type 0 where
  pub referrer : IsEntity s x.entity
  pub inverted : (p : Name) × IsInverted s x p

-- The declaration i is an entity that declares or redeclares the inverse attribute.
abbrev pub HasInverse : Schema → ℕ → Inverse → Type 0
HasInverse s i x = (e : Entity) × IsAt s i (entity e) × Among x (listed e.inverses)

-- The inverse attributes of the entity n, except redeclarations.
abbrev pub inverses_of : Name → List Inverse → List (Name × Inverse)
inverses_of n xs = map (λ (i : Inverse). (n, i)) (filter (λ (i : Inverse). is_own i.attribute) xs)

abbrev pub inverses_by : Entity → List (Name × Inverse)
inverses_by e = inverses_of e.name (listed e.inverses)

-- The row is that of the inverse attribute.
pub record IsInverse (s : Schema) (x : Name × Inverse) (i : InverseAttribute) : Type 0 where
  pub seen : (d : Domain) → IsDomain s d → IsInverseAttribute s d x (inverse_seen s i)
  pub numbered : IsNumberedInverse s i

-- The numbers are those of entities.
abbrev pub AreEntities : Schema → List ℕ → Type 0
AreEntities s row = (i : ℕ) → Among i row → (p : Name) × IsEntity s p × HasNumber s p i

-- The explicit attribute has the name a, and an entity with one of the numbers declares it itself.
abbrev pub IsDeclaredBy : Schema → Name → List ℕ → Place → Type 0
IsDeclaredBy s a row (p, b) = (b ≡ a) × DeclaresExplicit s p b × ((i : ℕ) × HasNumber s p i × Among i row)

-- The numbers are those of the explicit attributes for which P holds.
pub record ArePlacesOf (s : Schema) (P : Place → Type 0) (row : List ℕ) : Type 0 where
  pub forth : (q : ℕ) → Among q row → (p : Place) × HasPlace s p q × P p
  pub back : (p : Place) → P p → (q : ℕ) × HasPlace s p q × Among q row

-- The list is extended by the numbers of the explicit attributes for which P holds.
abbrev pub AddsPlaces : Schema → (Place → Type 0) → List ℕ → List ℕ → Type 0
AddsPlaces s P old new = (row : List ℕ) × (new ≡ old ++ row) × ArePlacesOf s P row

-- The n-th rule in the UNIQUE clause of the entity e.
abbrev pub statement_of : Name → ℕ → Unique → UniquenessStatement
statement_of e n u = record { entity = e; label = label_of n u.label; attributes = u.attributes }

abbrev pub uniques_by : Entity → List UniquenessStatement
uniques_by e = statements_from e.name 1 (listed e.uniques)

-- The row is that of the uniqueness rule.
pub record IsUnique (s : Schema) (x : UniquenessStatement) (u : UniqueRule) : Type 0 where
  pub seen : IsUniqueRule s x (unique_seen s u)
  pub numbered : IsNumberedUnique s u
