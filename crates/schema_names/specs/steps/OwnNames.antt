-- The names of the attributes that entities declare themselves, by the number of the entity (ISO 10303-11, 9.2.1).
use Rattle.std.specs.Prelude.{◌≡◌, ℕ, List, [], ◌++◌, Vec, Option, None, Some, IfSome, slice_get}
use Rattle.std.specs.List.Sorted.{IsSorted}
use Rattle.step_literals.specs.declared.literal.Word.{Word}
use Rattle.express_syntax.specs.Schemas.{Schema, Declaration, type, entity, skipped, Entity}
use Rattle.express_syntax.specs.Views.{names_of}
use Rattle.schema_semantics.specs.Names.{Name, explicit_names, derived_names, inverse_names}
use Rattle.schema_names.specs.declared.attribute_names.Class.{Class}
use Rattle.schema_names.specs.declared.attribute_names.Class.TheVariants.{Explicit, Other}
use Rattle.schema_names.specs.steps.Enumerated.{includes, by_name}

-- The own attributes of a class.
abbrev pub names_of_class : Class → Entity → List Name
names_of_class Explicit e = explicit_names e
names_of_class Other e = derived_names e ++ inverse_names e

abbrev pub names_in : Class → Declaration → List Name
names_in c (type t) = []
names_in c (entity e) = names_of_class c e
names_in c (skipped p) = []

abbrev pub some_names : Class → Option Declaration → List Name
some_names c None = []
some_names c (Some d) = names_in c d

abbrev pub names_at : Schema → Class → ℕ → List Name
names_at s c i = some_names c (slice_get s.declarations i)

-- A row has the given names, sorted.
abbrev pub IsRowOf : List Name → List Word → Type 0
IsRowOf names row = IsSorted by_name row × ((n : Name) → includes (names_of row) n ≡ includes names n)

-- Each row has the names of the declaration with its number. A declaration may have no row.
abbrev pub AreOwnRows : {Z : Type 0} → List Declaration → Class → (ℕ → Option (Vec Word Z)) → Type 0
AreOwnRows ds c rows = (i : ℕ) → IfSome (rows i) (λ v. IsRowOf (some_names c (slice_get ds i)) v.items)
