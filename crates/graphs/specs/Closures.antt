-- Transitive closures as graphs, reversed edges, and the first vertex on a cycle.
use Rattle.std.specs.Prelude.{◌≡◌, ℕ, ◌<◌, length, eqb, ◌↔◌, Option, Some, None}
use Rattle.std.specs.List.{IsDistinct}
use Rattle.graphs.specs.Graphs.{Graph, has, next, Step, Reaches, IsCyclic, IsAcyclic}

-- The edges of t lead from each vertex to the vertices that it reaches in g, each once.
pub record IsClosure (g t : Graph) : Type 0 where
  pub same : length t ≡ length g
  pub reached : (a b : ℕ) → Step t a b ↔ Reaches g a b
  pub once : (a : ℕ) → IsDistinct eqb (next t a)

-- The edges of t are those of g, reversed.
pub record IsReversal (g t : Graph) : Type 0 where
  pub same : length t ≡ length g
  pub turned : (a b : ℕ) → has (next t b) a ≡ has (next g a) b

-- the first vertex on a cycle, if any
abbrev pub IsFirstCyclic : Graph → Option ℕ → Type 0
IsFirstCyclic g None = IsAcyclic g
IsFirstCyclic g (Some a) = IsCyclic g a × ((b : ℕ) → b < a → IsCyclic g b → ⊥)
