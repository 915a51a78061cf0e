-- Laws of topological orders, whatever the graph.
use Rattle.std.specs.Prelude.{◌≡◌, ℕ, ◌<◌, true, List, get_or}
use Rattle.graphs.specs.Graphs.{Graph, has, Step, LeadsToCycle}
use Rattle.graphs.specs.Orders.{IsOrder, Solves, AreRanks, IsLongest}

-- along an order there is at most one table
abbrev pub TablesAreOne : Type 0 → Type 0
TablesAreOne X = (g : Graph) (xs : List ℕ) (F : ℕ → List X → X) (t u : ℕ → X) → IsOrder g xs → Solves g xs F t
    → Solves g xs F u → (a : ℕ) → has xs a ≡ true → t a ≡ u a

-- no vertex of an order reaches a cycle
abbrev pub OrderedLeadToNoCycle : Type 0
OrderedLeadToNoCycle = (g : Graph) (xs : List ℕ) → IsOrder g xs → (a : ℕ) → has xs a ≡ true → LeadsToCycle g a → ⊥

-- ranks fall along edges
abbrev pub RanksFall : Type 0
RanksFall = (g : Graph) (xs ranks : List ℕ) → AreRanks g xs ranks → (a b : ℕ) → has xs a ≡ true → Step g a b
    → get_or ranks b 0 < get_or ranks a 0

-- a rank is the number of steps of a longest chain
abbrev pub RanksAreLongest : Type 0
RanksAreLongest = (g : Graph) (xs ranks : List ℕ) → IsOrder g xs → AreRanks g xs ranks → (a : ℕ) → has xs a ≡ true
    → IsLongest g a (get_or ranks a 0)
