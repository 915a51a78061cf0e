-- The data types of an entity's attributes, found in its row (ISO 10303-11, 9.2.1).
use Rattle.std.specs.Prelude.{ℕ, Bool, cond, List, [], ◌∷◌, ◌++◌, Option, None, Some, map}
use Rattle.std.specs.List.{list_any}
use Rattle.express_syntax.specs.Schemas.{Entity, Attribute, Explicit, Derived, Inverse, DataType}
use Rattle.schema_semantics.specs.Names.{Name, listed}
use Rattle.schema_semantics.specs.Attributes.{collected}
use Rattle.schema_explicit_attributes.specs.steps.Owned.{is_own}

-- Attributes that are declared together, and their data type.
abbrev pub Typing : Type 0
Typing = List Attribute × DataType

abbrev pub explicit_typing : Explicit → Typing
explicit_typing x = (x.attributes, x.data_type)

abbrev pub derived_typing : Derived → Typing
derived_typing d = (d.attribute ∷ [], d.data_type)

abbrev pub inverse_typing : Inverse → Typing
inverse_typing i = (i.attribute ∷ [], collected i.collection i.entity)

-- The attribute declarations of an entity, in the order of its row.
abbrev pub typings : Entity → List Typing
typings e =
    map explicit_typing e.explicits ++ map derived_typing (listed e.derived)
    ++ map inverse_typing (listed e.inverses)

-- Whether the declaration has an attribute a that isn't a redeclaration.
abbrev pub types_own : Name → Typing → Bool
types_own a t = list_any (is_own a) t.0

-- The number in the row of the first item that passes the test, if any.
abbrev pub number_where : {A : Type 0} → (A → Bool) → List ℕ → List A → Option ℕ
number_where test [] xs = None
number_where test (n ∷ row) [] = None
number_where test (n ∷ row) (x ∷ xs) = cond (test x) (Some n) (number_where test row xs)
