-- Derived attributes that use one another: which ones use themselves, and the ranks of the others
-- (ISO 10303-11, 9.2.1.2).
use Rattle.std.specs.Prelude.{◌≡◌, ℕ, zero, suc, ◌<◌, List, [], ◌∷◌, Option, None, Some, ◌⊎◌}
use Rattle.graphs.specs.Graphs.{Leads}
use Rattle.express_syntax.specs.Schemas.{Schema, Entity, Attribute, own, redeclared, Derived, Body}
use Rattle.schema_semantics.specs.declared.unchecked.Reason.{Reason}
use Rattle.schema_semantics.specs.declared.unchecked.Reason.TheVariants as reasons
use Rattle.schema_semantics.specs.Names.{Name, IsOrLeads, listed, IsEntityAt}
use Rattle.schema_semantics.specs.Shapes.{instance}
use Rattle.schema_semantics.specs.Attributes.{Place, Derivation, IsDerivation}
use Rattle.schema_semantics.specs.Sets.{Set}
use Rattle.schema_semantics.specs.Reasons.{GivesReason, BodyMayUse}

-- The set of SELF in an entity: its instances.
abbrev pub Self : Name → Set
Self e x = x ≡ instance e

-- The expression of the first derived attribute may use the second.
abbrev pub Uses : Schema → Derivation → Derivation → Type 0
Uses s d u = (x : Derived) × IsDerivation s d x × BodyMayUse s (Self d.0) x.body u

-- The derived attribute may use itself, directly or through others.
abbrev pub LeadsToItself : Schema → Derivation → Type 0
LeadsToItself s d = Leads (Uses s) d d

-- The expression of the derived attribute itself gives a reason not to check it.
abbrev pub HasOwnReason : Schema → Derivation → Type 0
HasOwnReason s d = (x : Derived) × IsDerivation s d x × (r : Reason) × GivesReason s (Self d.0) x.body r

-- The derived attribute, or one that it may use, directly or through others, is faulty or may use
-- itself.
abbrev pub IsSetAside : Schema → Derivation → Type 0
IsSetAside s d = (u : Derivation) × IsOrLeads (Uses s) d u × (HasOwnReason s u ⊎ LeadsToItself s u)

-- The reason applies to the body: the body itself gives it, or, for `Leads`, the body may use a
-- derived attribute that is set aside.
abbrev pub HasReason : Schema → Set → Body → Reason → Type 0
HasReason s self b reasons.Leads = (u : Derivation) × BodyMayUse s self b u × IsSetAside s u
HasReason s self b r = GivesReason s self b r

-- The rank of a derived attribute is one more than the greatest rank of those that it may use, or 0
-- if there are none. It is more than the rank of each, and 0 or one more than that of some.
pub record IsRank (s : Schema) (rank : Derivation → ℕ) (d : Derivation) : Type 0 where
  pub above : (u : Derivation) → Uses s d u → rank u < rank d
  pub least : (rank d ≡ 0) ⊎ ((u : Derivation) × Uses s d u × (rank d ≡ suc (rank u)))

-- `rank` gives the rank of each derived attribute that isn't set aside.
abbrev pub AreAttributeRanks : Schema → (Derivation → ℕ) → Type 0
AreAttributeRanks s rank = (d : Derivation) → (IsSetAside s d → ⊥) → IsRank s rank d

-- The name of the attribute, declared or redeclared, that a declaration is of.
abbrev pub derived_name : Attribute → Name
derived_name (own a) = a
derived_name (redeclared q a) = a

-- The `n`-th declaration of DERIVE, counted from 0, is the first for `a`.
abbrev pub IsFirstFor : Name → List Derived → ℕ → Type 0
IsFirstFor a [] n = ⊥
IsFirstFor a (d ∷ ds) zero = derived_name d.attribute ≡ a
IsFirstFor a (d ∷ ds) (suc n) = (derived_name d.attribute ≡ a → ⊥) × IsFirstFor a ds n

-- The attribute `(e, a)` is derived in `e` itself. A redeclared attribute is here under the entity
-- that redeclares it, not under the one that declares it.
abbrev pub IsDerivedAt : Schema → Place → Derivation → Type 0
IsDerivedAt s (e, a) (h, n) = (h ≡ e) × ((x : Entity) × IsEntityAt s e x × IsFirstFor a (listed x.derived) n)

-- The rank of an attribute; `None` if it isn't derived, or is set aside.
abbrev pub IsRankAt : Schema → Place → Option ℕ → Type 0
IsRankAt s p None = (d : Derivation) → IsDerivedAt s p d → IsSetAside s d
IsRankAt s p (Some r) =
    (d : Derivation) × IsDerivedAt s p d × (IsSetAside s d → ⊥)
    × ((rank : Derivation → ℕ) × AreAttributeRanks s rank × (rank d ≡ r))
