-- The types in terms of which defined types are defined, by number (ISO 10303-11, 8.3.2).
use Rattle.std.specs.Prelude.{ℕ, Option, None, Some, slice_get}
use Rattle.express_syntax.specs.Schemas.{Schema, Declaration, type, entity, skipped, Underlying, enumeration, select, data_type, DataType, named}
use Rattle.schema_semantics.specs.Names.{Name}
use Rattle.schema_names.specs.Numbers.{number_of}

abbrev pub name_of : DataType → Option Name
name_of (named n) = Some n
name_of k = None

abbrev pub name_behind : Underlying → Option Name
name_behind (enumeration items) = None
name_behind (select items) = None
name_behind (data_type k) = name_of k

abbrev pub renamed_in : Declaration → Option Name
renamed_in (type t) = name_behind t.underlying
renamed_in (entity e) = None
renamed_in (skipped p) = None

abbrev pub renamed_of : Option Declaration → Option Name
renamed_of None = None
renamed_of (Some d) = renamed_in d

abbrev pub number_for : Schema → Option Name → Option ℕ
number_for s None = None
number_for s (Some n) = number_of s n

-- The number of the name after the `=` of the defined type i, if any.
abbrev pub renamed_at : Schema → ℕ → Option ℕ
renamed_at s i = number_for s (renamed_of (slice_get s.declarations i))
