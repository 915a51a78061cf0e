-- Tables of the shapes of a schema's data types, and which of them are alike (ISO 10303-11, 8).
use Rattle.std.specs.Prelude.{◌≡◌, ℕ, Bool, List, Some, length, slice_get, ◌↔◌, IsTrue}
use Rattle.express_syntax.specs.Schemas.{Schema, DataType}
use Rattle.express_syntax.specs.Profile.{Every}
use Rattle.schema_semantics.specs.Faults.{IsMet, IsResolved, demands_of_data_type}
use Rattle.schema_semantics.specs.Shapes.{TypeShape, of_numbers, of_logicals, of_strings, of_binaries, of_items, of_instances, of_arrays, of_lists, of_collections, HasShape, AreAlikeTypes}
use Rattle.schema_data_types.specs.NumberedTypes.{all_data_types}
use Rattle.schema_data_types.specs.declared.shapes.Shape.{Shape as NumberedShape}
use Rattle.schema_data_types.specs.declared.shapes.Shape.TheVariants.{Numbers, Logicals, Strings, Binaries, Items, Instances, Arrays, Lists, Collections}
use Rattle.schema_data_types.specs.steps.Alike.{IsTable}

-- The name in a data type, if any, is that of a type or an entity.
abbrev pub IsKnown : Schema → DataType → Type 0
IsKnown s k = Every (IsMet s) (demands_of_data_type k)

-- k is the data type at m, and f is a shape with elements of k.
abbrev pub IsOver : List DataType → (DataType → TypeShape) → ℕ → TypeShape → Type 0
IsOver all over m f = (k : DataType) × (slice_get all m ≡ Some k) × (f ≡ over k)

-- The numbered shape represents the shape f: elements are given by the number of their data type.
abbrev pub IsShown : List DataType → NumberedShape → TypeShape → Type 0
IsShown all Numbers f = f ≡ of_numbers
IsShown all Logicals f = f ≡ of_logicals
IsShown all Strings f = f ≡ of_strings
IsShown all Binaries f = f ≡ of_binaries
IsShown all Items f = f ≡ of_items
IsShown all Instances f = f ≡ of_instances
IsShown all (Arrays m) f = IsOver all of_arrays m f
IsShown all (Lists m) f = IsOver all of_lists m f
IsShown all (Collections m) f = IsOver all of_collections m f

-- The numbered shape represents the shape of the data type k, with defined types resolved.
abbrev pub IsShapeOf : Schema → DataType → NumberedShape → Type 0
IsShapeOf s k x = (f : TypeShape) × HasShape s k f × IsShown (all_data_types s) x f

-- The shapes of all data types of a schema, by number. A data type whose name isn't declared has no
-- shape. In a resolved schema, only the data type of a redeclared inverse attribute can be such,
-- and there is no requirement on it.
pub record AreShapes (s : Schema) (shapes : List NumberedShape) : Type 0 where
  pub same : length shapes ≡ length (all_data_types s)
  pub table : IsTable shapes
  pub each : (n : ℕ) (k : DataType) → slice_get (all_data_types s) n ≡ Some k → IsKnown s k
      → (x : NumberedShape) × (slice_get shapes n ≡ Some x) × IsShapeOf s k x

-- If `shapes` are those of a resolved schema, `result` says whether the data types with these
-- numbers are alike.
abbrev pub DecidesAlike : List NumberedShape → ℕ → ℕ → Bool → Type 0
DecidesAlike shapes m n result =
    (s : Schema) (k l : DataType) → IsResolved s → AreShapes s shapes → slice_get (all_data_types s) m ≡ Some k
    → slice_get (all_data_types s) n ≡ Some l → IsKnown s k → IsKnown s l → IsTrue result ↔ AreAlikeTypes s k l
