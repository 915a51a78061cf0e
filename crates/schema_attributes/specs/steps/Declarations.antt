-- The declarations and redeclarations of the attributes of a name
-- (ISO 10303-11, 9.2.1 and 9.2.3.4).
use Rattle.std.specs.Prelude.{◌≡◌, ℕ, List, [], ◌∷◌, Option, None, Some, slice_get, ◌↔◌}
use Rattle.indexmap.specs.IndexMap.{get}
use Rattle.step_literals.specs.declared.literal.Word.{Word}
use Rattle.express_syntax.specs.ExpressionViews.{capitals}
use Rattle.express_syntax.specs.Schemas.{Schema, DataType}
use Rattle.schema_semantics.specs.Names.{Name, OneOf, Among, IsEntity, Declares}
use Rattle.schema_semantics.specs.Attributes.{Derivation, MayHaveType, Derives}
use Rattle.schema_names.specs.Words.{same_word}
use Rattle.schema_names.specs.Numbers.{HasNumber}
use Rattle.schema_data_types.specs.NumberedTypes.{all_data_types}
use Rattle.schema_attributes.specs.declared.declaration.AttributeDeclaration.{AttributeDeclaration}
use Rattle.schema_attributes.specs.declared.row.Row.{Row}
use Rattle.schema_attributes.specs.declared.row.Row.TheVariants as rows
use Rattle.schema_attributes.specs.declared.attributes.Attributes.{Attributes}
use Rattle.schema_attributes.specs.Derivations.{HasDerivation}

-- x is of an attribute that p declares.
abbrev pub IsDeclaredBy : Schema → Name → AttributeDeclaration → Type 0
IsDeclaredBy s p x = HasNumber s p x.entity

-- x gives the attribute the data type k.
abbrev pub GivesType : Schema → DataType → AttributeDeclaration → Type 0
GivesType s k x = slice_get (all_data_types s) x.data_type ≡ Some k

-- x gives the attribute its value by the derivation d.
abbrev pub GivesValue : Schema → Derivation → AttributeDeclaration → Type 0
GivesValue s d x = (j : ℕ) × (x.derivation ≡ Some j) × HasDerivation s j d

-- The list has the declarations of the attributes that are called a, and their redeclarations.
pub record AreDeclarations (s : Schema) (a : Name) (xs : List AttributeDeclaration) : Type 0 where
  pub within : (x : AttributeDeclaration) → Among x xs
      → (p : Name) × (k : DataType) × IsEntity s p × IsDeclaredBy s p x × GivesType s k x
  pub declared : (p : Name) → OneOf (IsDeclaredBy s p) xs ↔ Declares s p a
  pub typed : (p : Name) (k : DataType)
      → OneOf (λ (x : AttributeDeclaration). IsDeclaredBy s p x × GivesType s k x) xs ↔ MayHaveType s p a k
  pub derived : (p : Name) (d : Derivation)
      → OneOf (λ (x : AttributeDeclaration). IsDeclaredBy s p x × GivesValue s d x) xs ↔ Derives s p a d

-- The declarations of a row.
abbrev pub items_of : Row → List AttributeDeclaration
items_of (rows.One x) = x ∷ []
items_of (rows.Several b) = b.value.items

-- The declarations of a row, if any, otherwise empty.
abbrev pub row_in : Option Row → List AttributeDeclaration
row_in None = []
row_in (Some r) = items_of r

-- The declarations of a name in the table.
abbrev pub found : Attributes → Word → List AttributeDeclaration
found t w = row_in (get same_word t.rows w)

-- The table has the attribute declarations of the schema, by name.
abbrev pub AreAttributes : Schema → Attributes → Type 0
AreAttributes s t = (w : Word) → AreDeclarations s (capitals w) (found t w)
