-- The items of declarations, and the enumerations that have an item (ISO 10303-11, 8.4.1).
use Rattle.std.specs.Prelude.{ℕ, Bool, List, [], Option, None, Some, slice_get, flat_map, bytes_eq}
use Rattle.std.specs.List.{list_any}
use Rattle.graphs.specs.Graphs.{Graph, next}
use Rattle.express_syntax.specs.Schemas.{Schema, Declaration, type, entity, skipped}
use Rattle.schema_semantics.specs.Names.{Name}
use Rattle.schema_semantics.specs.Faults.{enumerated_items}

-- Whether n is among the names.
abbrev pub includes : List Name → Name → Bool
includes names n = list_any (λ m. bytes_eq m n) names

-- The items of an enumeration; empty for other declarations.
abbrev pub items_in : Declaration → List Name
items_in (type t) = enumerated_items t.underlying
items_in (entity e) = []
items_in (skipped p) = []

abbrev pub all_items : List Declaration → List Name
all_items ds = flat_map items_in ds

abbrev pub some_items : Option Declaration → List Name
some_items None = []
some_items (Some d) = items_in d

-- Whether the declaration i is an enumeration with the item n.
abbrev pub has_item_at : Schema → Name → ℕ → Bool
has_item_at s n i = includes (some_items (slice_get s.declarations i)) n

-- Whether the row of i has an enumeration with the item n.
abbrev pub has_item_within : Schema → Graph → Name → ℕ → Bool
has_item_within s parts n i = list_any (has_item_at s n) (next parts i)
