-- Tables of data types that grow.
use Rattle.std.specs.Prelude.{◌≡◌, ℕ, List, ◌++◌, map, flat_map}
use Rattle.express_syntax.specs.Schemas.{Schema, DataType}
use Rattle.schema_names.specs.Numbers.{AreAt}
use Rattle.schema_data_types.specs.declared.forms.Form.{Form}
use Rattle.schema_data_types.specs.NumberedTypes.{within, form_in}

-- The forms are extended by those of the data types `ks` and of their elements, and the row by the
-- numbers of `ks`.
pub record Adds (s : Schema) (old : List Form) (row : List ℕ) (ks : List DataType) (new : List Form) (after : List ℕ)
    : Type 0 where
  pub forms : new ≡ old ++ map (form_in s) (flat_map within ks)
  pub numbers : (all before : List DataType) → map (form_in s) all ≡ old → AreAt all row before
      → AreAt (all ++ flat_map within ks) after (before ++ ks)
