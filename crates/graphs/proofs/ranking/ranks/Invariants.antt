use Rattle.std.proofs.Common.{◌≡◌, ℕ, ◌≤◌, map, take, length, get_or}
use Rattle.graphs.specs.Orders.{Solves, IsElsewhere, above}
use Rattle.graphs.proofs.ranking.ranks.Given as goal

abbrev pub invariant-loop-a : goal.invariant-loop-a
invariant-loop-a l =
    record {
      long : length l.ranks.items ≡ length l.edges;
      done : Solves (map (λ v. v.items) l.edges) (take l.a-index l.order) (λ a rs. above rs)
          (λ b. get_or l.ranks.items b 0);
      others : IsElsewhere (take l.a-index l.order) 0 (λ b. get_or l.ranks.items b 0);
      low : (b : ℕ) → get_or l.ranks.items b 0 ≤ l.a-index;
    }
