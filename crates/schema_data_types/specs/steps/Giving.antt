-- The declarations that give values by themselves, and the rows of these and of SELECTs.
use Rattle.std.specs.Prelude.{ℕ, Bool, true, false, cond, List, [], ◌∷◌, Option, None, Some, slice_get}
use Rattle.express_syntax.specs.Schemas.{Schema, Declaration, type, entity, skipped, Underlying, enumeration, select, data_type, DataType, integer, number, boolean, logical, real, string, binary, array, list, bag, set, named}
use Rattle.schema_data_types.specs.steps.Selects.{is_select_at}
use Rattle.schema_data_types.specs.declared.value_givers.Wanted.{Wanted}
use Rattle.schema_data_types.specs.declared.value_givers.Wanted.TheVariants.{Giving, Selects}

-- Whether a data type isn't a name.
abbrev pub is_leaf : DataType → Bool
is_leaf integer = true
is_leaf number = true
is_leaf boolean = true
is_leaf logical = true
is_leaf (real p) = true
is_leaf (string w) = true
is_leaf (binary w) = true
is_leaf (array b o u k) = true
is_leaf (list b u k) = true
is_leaf (bag b k) = true
is_leaf (set b k) = true
is_leaf (named n) = false

abbrev pub gives_by : Underlying → Bool
gives_by (enumeration items) = true
gives_by (select items) = false
gives_by (data_type k) = is_leaf k

-- Whether a declaration gives values by itself.
abbrev pub gives_in : Declaration → Bool
gives_in (type t) = gives_by t.underlying
gives_in (entity e) = true
gives_in (skipped p) = false

abbrev pub some_gives : Option Declaration → Bool
some_gives None = false
some_gives (Some d) = gives_in d

abbrev pub gives_at : Schema → ℕ → Bool
gives_at s i = some_gives (slice_get s.declarations i)

-- A row of one number, or an empty row.
abbrev pub one_if : Bool → ℕ → List ℕ
one_if b j = cond b (j ∷ []) []

-- The number of a declaration that gives values by itself, or 0 for a SELECT; otherwise empty.
abbrev pub own_row : Wanted → Schema → ℕ → List ℕ
own_row Giving s i = one_if (gives_at s i) i
own_row Selects s i = one_if (is_select_at s i) 0
