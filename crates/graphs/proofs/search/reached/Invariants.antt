use Rattle.std.proofs.Common.{◌≡◌, ◌-◌, ◌≤◌, length, map}
use Rattle.graphs.specs.Rounds.{AreMarks, IsSearched}
use Rattle.graphs.proofs.search.reached.Given as goal

abbrev pub invariant-loop-at : goal.invariant-loop-at
invariant-loop-at l =
    record {
      searched : IsSearched (map (λ v. v.items) l.edges) l.from l.found.items l.at;
      marked : AreMarks l.marks l.found.items;
      same : length l.marks ≡ length l.edges;
      within : l.at ≤ length l.found.items;
    }

abbrev pub decreases-loop-at : goal.decreases-loop-at
decreases-loop-at l = length l.edges - l.at
