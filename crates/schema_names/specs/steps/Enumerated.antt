-- The items of enumerations, by the number of the declaration (ISO 10303-11, 8.4.1).
use Rattle.std.specs.Prelude.{◌≡◌, ℕ, Bool, List, [], Vec, Option, None, Some, map, get_or, slice_get, bytes_eq}
use Rattle.std.specs.List.{list_any}
use Rattle.std.specs.List.Sorted.{IsSorted}
use Rattle.std.specs.Ordering.{nat_cmp, on}
use Rattle.std.specs.declared.cmp.Ordering.{Ordering}
use Rattle.std.specs.Cmp.Lexicographic.{slice_cmp}
use Rattle.step_literals.specs.declared.literal.Word.{Word}
use Rattle.step_literals.specs.Values.{word_value}
use Rattle.express_syntax.specs.Schemas.{Schema, Declaration, type, entity, skipped}
use Rattle.express_syntax.specs.Views.{names_of}
use Rattle.schema_semantics.specs.Names.{Name}
use Rattle.schema_semantics.specs.Faults.{enumerated_items}

-- Whether n is among the names.
abbrev pub includes : List Name → Name → Bool
includes names n = list_any (bytes_eq n) names

-- The items of an enumeration; empty for other declarations.
abbrev pub items_in : Declaration → List Name
items_in (type t) = enumerated_items t.underlying
items_in (entity e) = []
items_in (skipped p) = []

abbrev pub some_items : Option Declaration → List Name
some_items None = []
some_items (Some d) = items_in d

abbrev pub items_at : Schema → ℕ → List Name
items_at s i = some_items (slice_get s.declarations i)

-- The order of words by the bytes of their names.
abbrev pub by_name : Word → Word → Ordering
by_name = on word_value (slice_cmp nat_cmp)

-- A row has the items of a declaration, sorted.
pub record IsItemRow (d : Declaration) (row : List Word) : Type 0 where
  pub sorted : IsSorted by_name row
  pub same : (n : Name) → includes (names_of row) n ≡ includes (items_in d) n

-- The row with the number i, if any, otherwise empty.
abbrev pub words_at : {Z : Type 0} → List (Vec Word Z) → ℕ → List Word
words_at rows i = get_or (map (λ v. v.items) rows) i []
