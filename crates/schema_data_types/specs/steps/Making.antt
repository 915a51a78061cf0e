-- The shape of each data type, from its form and from the shapes of declarations.
use Rattle.std.specs.Prelude.{ℕ, ◌+◌, List, [], ◌∷◌, Option, None, Some, get_or, slice_get}
use Rattle.express_syntax.specs.Schemas.{Schema, Underlying, enumeration, select, data_type, named, Declaration, type, entity, skipped}
use Rattle.schema_semantics.specs.Names.{Name}
use Rattle.schema_names.specs.Numbers.{HasNumber}
use Rattle.schema_data_types.specs.declared.forms.Form.{Form}
use Rattle.schema_data_types.specs.declared.forms.Form.TheVariants.{Number, Logical, String, Binary, List as OfList, Array, Collection, Named}
use Rattle.schema_data_types.specs.declared.shapes.Shape.{Shape}
use Rattle.schema_data_types.specs.declared.shapes.Shape.TheVariants.{Numbers, Logicals, Strings, Binaries, Items, Instances, Arrays, Lists, Collections}
use Rattle.schema_data_types.specs.ShapeTables.{IsShapeOf}

abbrev pub shape_declared : List Shape → ℕ → Shape
shape_declared declared j = get_or declared j Instances

-- The shape of the data type at n, from its form.
abbrev pub shape_by : List Shape → ℕ → Form → Shape
shape_by declared n Number = Numbers
shape_by declared n Logical = Logicals
shape_by declared n String = Strings
shape_by declared n Binary = Binaries
shape_by declared n Array = Arrays (n + 1)
shape_by declared n OfList = Lists (n + 1)
shape_by declared n Collection = Collections (n + 1)
shape_by declared n (Named None) = Instances
shape_by declared n (Named (Some j)) = shape_declared declared j

abbrev pub shape_seen : List Shape → ℕ → Option Form → Shape
shape_seen declared n None = Instances
shape_seen declared n (Some form) = shape_by declared n form

abbrev pub shape_first : List Form → List Shape → List ℕ → Shape
shape_first forms declared [] = Instances
shape_first forms declared (n ∷ row) = shape_seen declared n (slice_get forms n)

abbrev pub shape_behind : List Form → List Shape → List ℕ → Underlying → Shape
shape_behind forms declared row (enumeration items) = Items
shape_behind forms declared row (select items) = Instances
shape_behind forms declared row (data_type k) = shape_first forms declared row

abbrev pub shape_in : List Form → List Shape → List ℕ → Declaration → Shape
shape_in forms declared row (type t) = shape_behind forms declared row t.underlying
shape_in forms declared row (entity e) = Instances
shape_in forms declared row (skipped p) = Instances

-- `declared` has the shape of the name with the number j at j.
abbrev pub IsDeclaredAt : Schema → List Shape → ℕ → Type 0
IsDeclaredAt s declared j = (n : Name) → HasNumber s n j → IsShapeOf s (named n) (shape_declared declared j)

-- `declared` has the shape of each name at its number.
abbrev pub AreDeclared : Schema → List Shape → Type 0
AreDeclared s declared = (j : ℕ) → IsDeclaredAt s declared j
