-- Graphs on the numbers of declarations.
use Rattle.std.specs.Prelude.{◌≡◌, ℕ, List, [], ◌∷◌, length, ◌↔◌, filter_map}
use Rattle.graphs.specs.Graphs.{Graph, next, Step}
use Rattle.express_syntax.specs.Schemas.{Schema, Declaration, type, entity, skipped, Underlying, enumeration, select, data_type, named}
use Rattle.schema_semantics.specs.Names.{Name, Among, supertypes_of}
use Rattle.schema_names.specs.Numbers.{number_of, HasNumber, IsAt}

-- The names in the SUBTYPE OF of an entity; empty for other declarations (ISO 10303-11, 9.2.3).
abbrev pub supertypes_in : Declaration → List Name
supertypes_in (type t) = []
supertypes_in (entity e) = supertypes_of e
supertypes_in (skipped p) = []

-- What a defined type is made of: the name after its `=`, or the items of its SELECT
-- (ISO 10303-11, 8.3.2 and 8.4.2). Empty for other underlying types.
abbrev pub parts_of : Underlying → List Name
parts_of (enumeration items) = []
parts_of (select items) = items
parts_of (data_type (named n)) = n ∷ []
parts_of (data_type k) = []

abbrev pub parts_in : Declaration → List Name
parts_in (type t) = parts_of t.underlying
parts_in (entity e) = []
parts_in (skipped p) = []

-- The declaration i names the declaration j: one of its `names` has the number j.
abbrev pub NamesNumber : Schema → (Declaration → List Name) → ℕ → ℕ → Type 0
NamesNumber s names i j = (d : Declaration) × IsAt s i d × (n : Name) × Among n (names d) × HasNumber s n j

-- The row of each declaration lists the numbers of its `names`, in order, except names without a
-- number. There is an edge from i to j exactly if the declaration i names the declaration j.
pub record IsGraphOf (s : Schema) (names : Declaration → List Name) (g : Graph) : Type 0 where
  pub same : length g ≡ length s.declarations
  pub rows : (i : ℕ) (d : Declaration) → IsAt s i d → next g i ≡ filter_map (number_of s) (names d)
  pub edges : (i j : ℕ) → Step g i j ↔ NamesNumber s names i j
