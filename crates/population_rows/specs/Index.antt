-- The position of a name in a list.
use Rattle.std.specs.Prelude.{ℕ, zero, suc, map, ◌==◌, ◌-◌, cond, nat_lt, nat_eq, List, [], ◌∷◌, Option, None, Some, slice_get}
use Rattle.std.specs.Option.{option_map}
use Rattle.indexmap.specs.IndexMap.{get}
use Rattle.population_rows.specs.declared.index.RowIndex.{RowIndex}
use Rattle.population_rows.specs.declared.index.RowIndex.TheVariants.{Dense, Hashed}

-- the first position of a name, counted from 0, if any
abbrev pub place_of : List ℕ → ℕ → Option ℕ
place_of [] y = None
place_of (n ∷ ns) y = cond (n == y) (Some 0) (option_map suc (place_of ns y))

abbrev pub some_row : Option (Option ℕ) → Option ℕ
some_row None = None
some_row (Some r) = r

-- the row of a name in a list whose first element belongs to the least name
abbrev pub dense_at : ℕ → List (Option ℕ) → ℕ → Option ℕ
dense_at least rows y = cond (nat_lt y least) None (some_row (slice_get rows (y - least)))

-- a row that is stored counted from 1; 0 stores none
abbrev pub told : ℕ → Option ℕ
told zero = None
told (suc row) = Some row

-- the row that an index has for a name
abbrev pub found : RowIndex → ℕ → Option ℕ
found (Dense least rows) y = dense_at least (map told rows.items) y
found (Hashed map) y = get nat_eq map y
