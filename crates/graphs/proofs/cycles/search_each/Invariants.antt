use Rattle.std.proofs.Common.{◌≡◌, ℕ, ◌<◌, [], length, map}
use Rattle.graphs.specs.Graphs.{IsCyclic}
use Rattle.graphs.specs.Rounds.{AreMarks}
use Rattle.graphs.proofs.cycles.search_each.Given as goal

abbrev pub invariant-loop-vertex : goal.invariant-loop-vertex
invariant-loop-vertex l =
    record {
      clean : AreMarks l.marks [];
      same : length l.marks ≡ length l.edges;
      none : (b : ℕ) → b < l.vertex → IsCyclic (map (λ v. v.items) l.edges) b → ⊥;
    }
