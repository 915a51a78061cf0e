-- The possible values and the derivations of some declarations.
use Rattle.std.specs.Prelude.{◌≡◌, Bool, true, false, List, [], ◌∷◌, filter_map, ◌↔◌}
use Rattle.express_syntax.specs.Schemas.{Schema, DataType}
use Rattle.schema_semantics.specs.Names.{OneOf}
use Rattle.schema_semantics.specs.Shapes.{Atom, IsOf}
use Rattle.schema_data_types.specs.steps.Values.{Holds}
use Rattle.schema_attributes.specs.declared.declaration.AttributeDeclaration.{AttributeDeclaration}
use Rattle.schema_attributes.specs.steps.Declarations.{GivesType}
use Rattle.schema_attribute_references.specs.declared.taken_attributes.Taken.{Taken}

-- The atom is of the data type of one of the declarations.
abbrev pub IsOfOne : Schema → List AttributeDeclaration → Atom → Type 0
IsOfOne s xs a = OneOf (λ (x : AttributeDeclaration). (k : DataType) × GivesType s k x × IsOf s k a) xs

abbrev pub is_any : List AttributeDeclaration → Bool
is_any [] = false
is_any (x ∷ xs) = true

-- t is the result of a reference that takes the declarations.
pub record Gathers (s : Schema) (xs : List AttributeDeclaration) (t : Taken) : Type 0 where
  pub some : t.is_some ≡ is_any xs
  pub may : (a : Atom) → Holds s t.may.items a ↔ IsOfOne s xs a
  pub uses : t.uses.items ≡ filter_map (λ (x : AttributeDeclaration). x.derivation) xs
