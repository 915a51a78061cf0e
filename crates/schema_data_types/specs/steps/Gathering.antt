-- Collecting along the edges of a graph.
use Rattle.std.specs.Prelude.{◌≡◌, ℕ, true, List, length, ◌⊎◌, ◌↔◌}
use Rattle.graphs.specs.Graphs.{Graph, has, Step, Reaches}

-- The number j is in the row of a, or in that of a vertex that a reaches.
abbrev pub Gathers : Graph → (ℕ → List ℕ) → ℕ → ℕ → Type 0
Gathers g own a j = (has (own a) j ≡ true) ⊎ ((b : ℕ) × Reaches g a b × (has (own b) j ≡ true))

-- Each row has the own numbers of its vertex, and those of the vertices that it reaches.
pub record IsGathered (g : Graph) (own : ℕ → List ℕ) (rows : Graph) : Type 0 where
  pub same : length rows ≡ length g
  pub each : (a j : ℕ) → Step rows a j ↔ Gathers g own a j
