-- The analysis of a reference, qualifier by qualifier (ISO 10303-11, 12.7).
use Rattle.std.specs.Prelude.{◌≡◌, ◌||◌, ◌++◌, ◌↔◌, ◌⊎◌, IsTrue}
use Rattle.express_syntax.specs.Trees.{Qualifiers}
use Rattle.express_syntax.specs.Schemas.{Schema}
use Rattle.schema_semantics.specs.Names.{OneOf}
use Rattle.schema_semantics.specs.Attributes.{Derivation}
use Rattle.schema_semantics.specs.Sets.{Path, IsUnclear, MayUse, path_behind}
use Rattle.schema_data_types.specs.steps.Values.{Holds}
use Rattle.schema_attributes.specs.Derivations.{HoldsDerivation}
use Rattle.schema_attribute_references.specs.steps.Taking.{IsSet}
use Rattle.schema_attribute_references.specs.declared.taken_attributes.Taken.{Taken}
use Rattle.schema_expression_types.specs.declared.references.Reference.{Reference}

-- t is the analysis of the path p.
pub record IsPath (s : Schema) (p : Path) (t : Reference) : Type 0 where
  pub unclear : IsTrue t.is_unclear ↔ OneOf (IsUnclear s) p.attributes
  pub may : IsSet s p.may t.may.items
  pub uses : (d : Derivation) → HoldsDerivation s t.uses.items d ↔ OneOf (MayUse s d) p.attributes

-- `new` is the analysis of `old`, continued by the path p.
pub record GoesAlong (s : Schema) (old : Reference) (p : Path) (new : Reference) : Type 0 where
  pub unclear : IsTrue new.is_unclear ↔ (IsTrue old.is_unclear ⊎ OneOf (IsUnclear s) p.attributes)
  pub may : IsSet s p.may new.may.items
  pub uses : (d : Derivation) → HoldsDerivation s new.uses.items d
      ↔ (HoldsDerivation s old.uses.items d ⊎ OneOf (MayUse s d) p.attributes)

-- `new` is the analysis of `old`, continued by qualifiers.
abbrev pub GoesOn : Schema → Reference → Qualifiers → Reference → Type 0
GoesOn s old qs new = GoesAlong s old (path_behind s (Holds s old.may.items) qs) new

-- `new` is the analysis of `old`, continued by an attribute.
pub record Joins (old : Reference) (t : Taken) (new : Reference) : Type 0 where
  pub unclear : new.is_unclear ≡ old.is_unclear || t.is_unclear
  pub may : new.may.items ≡ t.may.items
  pub uses : new.uses.items ≡ old.uses.items ++ t.uses.items
