-- Which declarations are SELECTs.
use Rattle.std.specs.Prelude.{ℕ, Bool, true, false, Option, None, Some, slice_get}
use Rattle.express_syntax.specs.Schemas.{Schema, Declaration, type, Underlying, select}

abbrev pub is_of_items : Underlying → Bool
is_of_items (select items) = true
is_of_items u = false

abbrev pub is_select : Declaration → Bool
is_select (type t) = is_of_items t.underlying
is_select d = false

abbrev pub is_some_select : Option Declaration → Bool
is_some_select None = false
is_some_select (Some d) = is_select d

-- Whether the declaration i is a SELECT.
abbrev pub is_select_at : Schema → ℕ → Bool
is_select_at s i = is_some_select (slice_get s.declarations i)
