use Rattle.std.proofs.Common.{◌≡◌, ℕ, ◌<◌, [], length, map, eqb, ◌↔◌}
use Rattle.std.specs.List.{IsDistinct}
use Rattle.graphs.specs.Graphs.{next, Step, Reaches}
use Rattle.graphs.specs.Rounds.{AreMarks}
use Rattle.graphs.proofs.closures.closure.Given as goal

abbrev pub invariant-loop-from : goal.invariant-loop-from
invariant-loop-from l =
    record {
      clean : AreMarks l.marks.items [];
      same : length l.marks.items ≡ length l.edges;
      long : length l.rows.items ≡ l.from;
      reached : (a : ℕ) → a < l.from → (b : ℕ)
          → Step (map (λ v. v.items) l.rows.items) a b ↔ Reaches (map (λ v. v.items) l.edges) a b;
      once : (a : ℕ) → a < l.from → IsDistinct eqb (next (map (λ v. v.items) l.rows.items) a);
    }
