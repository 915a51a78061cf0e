-- A topological order that is being built.
use Rattle.std.specs.Prelude.{◌≡◌, ℕ, Bool, List, ◌++◌, get_or}
use Rattle.graphs.specs.Graphs.{Graph, next}
use Rattle.graphs.specs.Orders.{IsOrder}
use Rattle.graphs.specs.Rounds.{AreMarks, AreMarkedUpTo}

-- The marks are on the vertices in the order. The targets of each vertex's first edges, as many as `passed`
-- counts, are marked.
pub record IsPlacing (g : Graph) (order : List ℕ) (marks : List Bool) (passed : List ℕ) : Type 0 where
  pub ordered : IsOrder g order
  pub marked : AreMarks marks order
  pub passes : (a : ℕ) → AreMarkedUpTo marks (next g a) (get_or passed a 0)

-- new is old, followed by more
abbrev pub Extends : List ℕ → List ℕ → Type 0
Extends old new = (more : List ℕ) × (new ≡ old ++ more)
