-- Attributes whose values are stored in the population: explicit ones, and inverse ones by the
-- instances that refer (ISO 10303-11, 9.2.1.1 and 9.2.1.3).
use Rattle.std.specs.Prelude.{◌≡◌, ℕ, Bool, true, ◌&&◌, List, Option, None, Some, MatchOption, slice_get, eqb, bytes_eq, map, ◌⊎◌}
use Rattle.std.specs.List.{position_from}
use Rattle.express_syntax.specs.ExpressionViews.{capitals}
use Rattle.express_syntax.specs.Schemas.{Schema, Entity}
use Rattle.express_syntax.specs.Profile.{Every}
use Rattle.schema_semantics.specs.Names.{Name, Among, IsEntityAt, inverse_names, DeclaresExplicit}
use Rattle.schema_semantics.specs.Attributes.{Place}
use Rattle.schema_explicit_attributes.specs.Places.{all_places}
use Rattle.conformance.specs.Bases.{Domain}
use Rattle.conformance.specs.Rules.{InverseAttribute, IsInverseAttribute, InTurn, declared_inverses}
use Rattle.schema_constraints.specs.RuleViews.{inverse_seen, IsNumberedInverse}
use Rattle.schema_constraints.specs.declared.inverses.InverseAttribute.{InverseAttribute as InverseRow}
use Rattle.conformance.specs.Attributes.{Source, explicit, derived, inverse, unclear, IsInverse}

abbrev pub is_inverse : ℕ → Name → InverseRow → Bool
is_inverse p a i = eqb i.entity p && bytes_eq (capitals i.name) a

-- The item at n exists and passes the test.
abbrev pub HasTest : {A : Type 0} → (A → Bool) → List A → ℕ → Type 0
HasTest {A} test xs n = (x : A) × (slice_get xs n ≡ Some x) × (test x ≡ true)

-- o is the index of an item that passes the test, or no item does.
abbrev pub IsTested : {A : Type 0} → (A → Bool) → List A → Option ℕ → Type 0
IsTested test xs o = MatchOption o (position_from test 0 xs ≡ None) (HasTest test xs)

-- o is the number of the explicit attribute a that p declares itself, if it declares one.
abbrev pub IsOwnPlace : Schema → Place → Option ℕ → Type 0
IsOwnPlace s (p, a) o =
    MatchOption o (DeclaresExplicit s p a → ⊥)
    (λ q. DeclaresExplicit s p a × (slice_get (all_places s) q ≡ Some (p, a)))

abbrev pub DeclaresInverse : Schema → Name → Name → Type 0
DeclaresInverse s p a = (e : Entity) × IsEntityAt s p e × Among a (inverse_names e)

-- p declares a as an explicit or an inverse attribute.
abbrev pub IsStored : Schema → Name → Name → Type 0
IsStored s p a = DeclaresExplicit s p a ⊎ DeclaresInverse s p a

-- The source is that of the explicit or inverse attribute a of p.
abbrev pub IsStoredAt : Schema → List InverseAttribute → Name → Name → Source → Type 0
IsStoredAt s inverses p a (explicit q) = (q ≡ (p, a)) × DeclaresExplicit s p a
IsStoredAt s inverses p a (derived d) = ⊥
IsStoredAt s inverses p a (inverse i) = IsInverse s inverses p a i × (DeclaresExplicit s p a → ⊥)
IsStoredAt s inverses p a unclear = ⊥

-- The rows are the inverse attributes of the schema, and their numbers are those of its entities
-- and attributes.
pub record AreInverses (s : Schema) (rows : List InverseRow) : Type 0 where
  pub declared : (d : Domain) × InTurn (IsInverseAttribute s d) (declared_inverses s) (map (inverse_seen s) rows)
  pub numbered : Every (IsNumberedInverse s) rows
