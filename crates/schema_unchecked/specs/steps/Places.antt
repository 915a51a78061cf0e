-- The positions of declarations, and the counts of derived attributes before them.
use Rattle.std.specs.Prelude.{◌≡◌, ℕ, ◌+◌, List, Some, flat_map, length, slice_get, take}
use Rattle.express_syntax.specs.Schemas.{Schema, DataType, Explicit, Derived}
use Rattle.schema_semantics.specs.Names.{Name}
use Rattle.schema_semantics.specs.Attributes.{IsDerivation}
use Rattle.schema_data_types.specs.ShapeTables.{IsKnown}
use Rattle.schema_data_types.specs.NumberedTypes.{all_data_types}
use Rattle.schema_attributes.specs.Derivations.{derivations_in, HasDerivation}

-- The number of the first derived attribute from the declaration i on.
abbrev pub derivations_before : Schema → ℕ → ℕ
derivations_before s i = length (flat_map derivations_in (take i s.declarations))

-- k is the data type with the number n, and its names are known.
abbrev pub IsDataTypeAt : Schema → ℕ → DataType → Type 0
IsDataTypeAt s n k = (slice_get (all_data_types s) n ≡ Some k) × IsKnown s k

-- The numbers in the row are those of the data types of the declarations, in turn.
abbrev pub AreDataTypesAt : Schema → List ℕ → List Explicit → Type 0
AreDataTypesAt s row xs =
    (i : ℕ) (x : Explicit) → slice_get xs i ≡ Some x
    → (n : ℕ) × (slice_get row i ≡ Some n) × IsDataTypeAt s n x.data_type

-- The derived attributes are those of the entity e, with numbers from `first` on.
abbrev pub AreDerivationsFrom : Schema → Name → ℕ → List Derived → Type 0
AreDerivationsFrom s e first ds =
    (i : ℕ) (d : Derived) → slice_get ds i ≡ Some d
    → HasDerivation s (first + i) (e, i) × IsDerivation s (e, i) d
