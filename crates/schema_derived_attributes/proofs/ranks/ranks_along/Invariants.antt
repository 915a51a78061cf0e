use Rattle.std.proofs.Common.{◌≡◌, ℕ, ◌≤◌, None, Some, map, take, length, get_or}
use Rattle.graphs.specs.Orders.{Solves, IsElsewhere}
use Rattle.schema_derived_attributes.specs.steps.Tables.{rank_from}
use Rattle.schema_derived_attributes.proofs.ranks.ranks_along.Given as goal

abbrev pub invariant-loop-a : goal.invariant-loop-a
invariant-loop-a l =
    record {
      long : length l.ranks.items ≡ length l.uses;
      done : Solves (map (λ v. v.items) l.uses) (take l.a-index l.order) (rank_from l.faulty)
          (λ b. get_or l.ranks.items b None);
      others : IsElsewhere (take l.a-index l.order) None (λ b. get_or l.ranks.items b None);
      low : (b r : ℕ) → get_or l.ranks.items b None ≡ Some r → r ≤ l.a-index;
    }
