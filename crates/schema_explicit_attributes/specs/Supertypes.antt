-- Proper supertypes, by number.
use Rattle.std.specs.Prelude.{ℕ, Bool, false, ◌||◌, Option, None, Some, eqb}
use Rattle.graphs.specs.Graphs.{Graph, has, next}
use Rattle.graphs.specs.Closures.{IsClosure}
use Rattle.express_syntax.specs.Schemas.{Schema}
use Rattle.schema_names.specs.Edges.{IsGraphOf, supertypes_in}

-- The row of each declaration has the numbers of all its proper supertypes (ISO 10303-11, 9.2.3.3).
pub record AreAbove (s : Schema) (rows : Graph) : Type 0 where
  pub graph : Graph
  pub drawn : IsGraphOf s supertypes_in graph
  pub closed : IsClosure graph rows

-- Whether the numbers are equal, or the second is in the row of the first; false without a first
-- number.
abbrev pub is_or_leads : Graph → Option ℕ → ℕ → Bool
is_or_leads above None j = false
is_or_leads above (Some i) j = eqb i j || has (next above i) j
