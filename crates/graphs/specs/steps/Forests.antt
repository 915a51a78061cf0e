-- Forests: graphs in which each vertex has edges to at most one vertex, and none lies on a cycle.
use Rattle.std.specs.Prelude.{◌≡◌, ℕ, ◌<◌, true, List, [], ◌∷◌, length, ◌⊎◌}
use Rattle.graphs.specs.Graphs.{Graph, has, next, Step, Reaches, IsGraph, IsAcyclic}

abbrev pub first_or : ℕ → List ℕ → ℕ
first_or d [] = d
first_or d (b ∷ bs) = b

-- the target of the edge from a vertex; without an edge, the number of vertices
abbrev pub parent : Graph → ℕ → ℕ
parent g a = first_or (length g) (next g a)

pub record IsForest (g : Graph) : Type 0 where
  pub graph : IsGraph g
  pub single : (a b : ℕ) → Step g a b → parent g a ≡ b
  pub acyclic : IsAcyclic g

-- a is b, or edges lead from a to b
abbrev pub IsUnder : Graph → ℕ → ℕ → Type 0
IsUnder g a b = (a ≡ b) ⊎ Reaches g a b

-- no vertex is missing
abbrev pub IsComplete : Graph → List ℕ → Type 0
IsComplete g order = (a : ℕ) → a < length g → has order a ≡ true
