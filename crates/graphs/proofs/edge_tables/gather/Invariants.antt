use Rattle.std.proofs.Common.{◌≡◌, ℕ, ◌<◌, true, [], map, drop, length, ◌++◌}
use Rattle.std.specs.List.{concat}
use Rattle.graphs.specs.Graphs.{has, next}
use Rattle.graphs.specs.Rounds.{added, AreMarks}
use Rattle.graphs.proofs.edge_tables.gather.Given as goal

abbrev pub invariant-loop-b : goal.invariant-loop-b
invariant-loop-b l =
    record {
      joined : added l.found.items (concat (map (next (map (λ v. v.items) l.table)) (drop l.b-index l.after)) ++ l.own)
          ≡ added [] (concat (map (next (map (λ v. v.items) l.table)) l.after) ++ l.own);
      marked : AreMarks l.marks l.found.items;
      same : length l.marks ≡ length l.fn.marks;
      within : (y : ℕ) → has l.found.items y ≡ true → y < length l.marks;
    }
