use Rattle.std.proofs.Common.{◌≡◌, ℕ, nat_lt, ◌&&◌, length, map}
use Rattle.graphs.specs.Graphs.{has, next}
use Rattle.graphs.proofs.closures.reversal.Given as goal

abbrev pub invariant-loop-from : goal.invariant-loop-from
invariant-loop-from l =
    record {
      long : length l.rows.items ≡ length l.edges;
      turned : (a b : ℕ) → has (next (map (λ v. v.items) l.rows.items) b) a
          ≡ (nat_lt a l.from && has (next (map (λ v. v.items) l.edges) a) b);
    }
