-- Marks that spread to the vertices under marked ones.
use Rattle.std.specs.Prelude.{◌≡◌, ℕ, ◌+◌, ◌<◌, Bool, true, false, ◌||◌, List, length, get_or, ◌↔◌}
use Rattle.graphs.specs.Graphs.{Graph, has}
use Rattle.graphs.specs.steps.Forests.{parent, IsUnder}

-- The marks are on the vertices that were marked, and on all vertices under them.
abbrev pub AreSpread : Graph → List Bool → List Bool → Type 0
AreSpread g marked marks =
    (a : ℕ) → a < length g → (get_or marks a false ≡ true) ↔ ((b : ℕ) × (get_or marked b false ≡ true) × IsUnder g a b)

-- What the code computes: each vertex of `done` has a mark if it was marked itself or its parent has one.
pub record GoDown (g : Graph) (done : List ℕ) (marked marks : List Bool) : Type 0 where
  pub long : length marks ≡ length g + 1
  pub root : get_or marks (length g) false ≡ false
  pub each : (a : ℕ) → has done a ≡ true
      → get_or marks a false ≡ (get_or marked a false || get_or marks (parent g a) false)
