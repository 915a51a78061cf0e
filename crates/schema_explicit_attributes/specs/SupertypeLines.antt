-- The supertype chains of entities, by number.
use Rattle.std.specs.Prelude.{◌≡◌, ℕ, List, [], ◌∷◌, filter_map}
use Rattle.std.specs.List.{concat}
use Rattle.graphs.specs.Graphs.{Graph, next}
use Rattle.graphs.specs.Rounds.{added}
use Rattle.express_syntax.specs.Schemas.{Schema}
use Rattle.schema_semantics.specs.Names.{Name, IsEntity}
use Rattle.schema_semantics.specs.Attributes.{AreLines}
use Rattle.schema_names.specs.Numbers.{number_of, HasNumber}

-- A number, then the rows of its supertypes in turn, without repetitions.
abbrev pub line_from : ℕ → List (List ℕ) → List ℕ
line_from a rows = added [] (a ∷ concat rows)

-- The row of each entity has the numbers of its supertype chain, each once, in the order of their
-- first occurrences (ISO 10303-11, 9.2.3.4).
pub record HaveLines (s : Schema) (rows : Graph) : Type 0 where
  pub some : (line : Name → List Name) × AreLines s line
  pub each : (line : Name → List Name) → AreLines s line → (n : Name) (i : ℕ) → IsEntity s n → HasNumber s n i
      → next rows i ≡ added [] (filter_map (number_of s) (line n))
