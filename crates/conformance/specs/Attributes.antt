-- Where an attribute has its value, and how derived attributes are computed. Both depend only on
-- the schema and on the types of the instance (ISO 10303-11, 9.2.1 and 9.2.3).
use Rattle.std.specs.Prelude.{◌≡◌, ◌≢◌, ℕ, ◌<◌, Bool, List, Option, Some, None, ◌⊎◌, ◌↔◌, IsTrue}
use Rattle.express_syntax.specs.Trees.{Tree}
use Rattle.express_syntax.specs.Schemas.{Schema, Derived, parsed, named}
use Rattle.schema_semantics.specs.Names.{Name, Among, IsFirst, IsOrLeads, IsKindOf, Declares, DeclaresExplicit, Renames}
use Rattle.schema_semantics.specs.Attributes.{Place, Derivation, IsDerivation, Derives}
use Rattle.schema_semantics.specs.Sets.{MayTake, of_entity}
use Rattle.schema_semantics.specs.Ranks.{IsSetAside, AreAttributeRanks}
use Rattle.conformance.specs.Rules.{InverseAttribute}

-- The source of an attribute's value:
-- - `explicit`: the value of this explicit attribute;
-- - `derived`: the expression of this derived attribute, given by its entity and its number in
--   DERIVE;
-- - `inverse`: the instances that refer;
-- - `unclear`: none, because the reference means no attribute or several, or because no derivation
--   is in a subtype of all the others.
pub data Source : Type 0 where
  explicit : Place → Source
  derived : Derivation → Source
  inverse : InverseAttribute → Source
  unclear : Source

-- How a derived attribute is computed: its expression, and its rank among derived attributes.
pub record Formula : Type 0 where
  pub rank : ℕ
  pub expression : Tree

-- The schema's meaning for attributes and names, as functions.
pub record Attributes : Type 0 where
  -- The attribute with this name of instances that have these types; `None` if no type declares
  -- one.
  pub source : List Name → Name → Option Source
  -- The attribute that `\entity.attribute` means, of instances that have these types.
  pub source_of : List Name → Name → Name → Source
  -- How a derived attribute is computed; `None` if it doesn't exist or is set aside.
  pub formula : Derivation → Option Formula
  -- The second name is the first, or it is a defined type by which the first is defined.
  pub is_defined_by : Name → Name → Bool

module _ (s : Schema) where
  -- The entity `e` gives the attribute `a` of `p` its value: `e` declares or redeclares it as
  -- derived.
  abbrev pub DerivesIt : Name → Name → Name → Type 0
  DerivesIt p a e = (n : ℕ) × Derives s p a (e, n)

  -- The `n`-th derived attribute of `e` is the first that gives the attribute `a` of `p` its value.
  abbrev pub DerivesFirst : Name → Name → Derivation → Type 0
  DerivesFirst p a (e, n) = Derives s p a (e, n) × ((m : ℕ) → m < n → Derives s p a (e, m) → ⊥)

  -- `e` is one of these types, derives the attribute `a` of `p`, and is a subtype of all other
  -- types that derive it.
  abbrev pub IsLowest : List Name → Name → Name → Name → Type 0
  IsLowest types p a e =
      Among e types × DerivesIt p a e × ((f : Name) → Among f types → DerivesIt p a f → IsKindOf s e f)

  -- None of these types derives the attribute `a` of `p`.
  abbrev pub IsUnderived : List Name → Name → Name → Type 0
  IsUnderived types p a = (e : Name) → Among e types → DerivesIt p a e → ⊥

  -- `p` is one of these types and declares an attribute `a`.
  abbrev pub IsDeclaring : List Name → Name → Name → Type 0
  IsDeclaring types a p = Among p types × Declares s p a

  -- `p` is the only one of these types that declares an attribute `a`.
  abbrev pub DeclaresAlone : List Name → Name → Name → Type 0
  DeclaresAlone types a p = IsDeclaring types a p × ((q : Name) → IsDeclaring types a q → q ≡ p)

  abbrev pub TwoDeclare : List Name → Name → Type 0
  TwoDeclare types a = (p : Name) × (q : Name) × IsDeclaring types a p × IsDeclaring types a q × (p ≢ q)

  -- `\e.a` means the attribute `a` that `p` declares: the one that `e` itself declares, otherwise
  -- the only one that `e` inherits. Both entities are among these types.
  abbrev pub IsGroupMember : List Name → Name → Name → Name → Type 0
  IsGroupMember types e a p = Among e types × Among p types × MayTake s (of_entity e a) p

  -- The expression and the rank of a derived attribute that isn't set aside; otherwise `None`.
  abbrev pub IsFormula : Derivation → Option Formula → Type 0
  IsFormula e None = IsSetAside s e ⊎ ((x : Derived) → IsDerivation s e x → ⊥)
  IsFormula e (Some f) =
      (IsSetAside s e → ⊥) × ((x : Derived) × IsDerivation s e x × (x.body ≡ parsed f.expression))
      × ((rank : Derivation → ℕ) × AreAttributeRanks s rank × (rank e ≡ f.rank))

  module _ (inverses : List InverseAttribute) where
    -- `i` is the inverse attribute `a` that `p` declares.
    abbrev pub IsInverse : Name → Name → InverseAttribute → Type 0
    IsInverse p a i = IsFirst (λ (j : InverseAttribute). (j.entity ≡ p) × (j.name ≡ a)) inverses i

    -- Instances that have these types have the value of the attribute `a` of `p` from this source.
    -- If types declare or redeclare the attribute as derived, its value is that of the type that is
    -- a subtype of all the others that do (ISO 10303-11, 9.2.3.4).
    abbrev pub IsSource : List Name → Name → Name → Source → Type 0
    IsSource types p a (explicit q) = (q ≡ (p, a)) × DeclaresExplicit s p a × IsUnderived types p a
    IsSource types p a (derived (e, n)) = IsLowest types p a e × DerivesFirst p a (e, n)
    IsSource types p a (inverse i) = IsInverse p a i × (DeclaresExplicit s p a → ⊥) × IsUnderived types p a
    IsSource types p a unclear = (IsUnderived types p a → ⊥) × ((e : Name) → IsLowest types p a e → ⊥)

    -- The attribute with this name, if any; unclear if two of the types declare one
    -- (ISO 10303-11, 12.7.3).
    abbrev pub IsNamed : List Name → Name → Option Source → Type 0
    IsNamed types a None = (p : Name) → IsDeclaring types a p → ⊥
    IsNamed types a (Some x) =
        ((p : Name) × DeclaresAlone types a p × IsSource types p a x) ⊎ (TwoDeclare types a × (x ≡ unclear))

    -- The attribute that `\e.a` means; unclear if there is none (ISO 10303-11, 12.7.4).
    abbrev pub IsInGroup : List Name → Name → Name → Source → Type 0
    IsInGroup types e a x =
        ((p : Name) × IsGroupMember types e a p × IsSource types p a x)
        ⊎ (((p : Name) → IsGroupMember types e a p → ⊥) × (x ≡ unclear))

-- These functions are the meaning of the schema `s`, which has these inverse attributes.
pub record AreAttributes (s : Schema) (inverses : List InverseAttribute) (attributes : Attributes) : Type 0 where
  pub sources : (types : List Name) (a : Name) → IsNamed s inverses types a (attributes.source types a)
  pub groups : (types : List Name) (e a : Name)
      → IsInGroup s inverses types e a (attributes.source_of types e a)
  pub formulas : (e : Derivation) → IsFormula s e (attributes.formula e)
  pub names : (m n : Name) → IsTrue (attributes.is_defined_by m n) ↔ IsOrLeads (Renames s) (named m) (named n)
