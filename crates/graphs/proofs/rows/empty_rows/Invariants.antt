use Rattle.std.proofs.Common.{◌≡◌, ℕ, [], length, map}
use Rattle.graphs.specs.Graphs.{next}
use Rattle.graphs.proofs.rows.empty_rows.Given as goal

abbrev pub invariant-loop : goal.invariant-loop
invariant-loop l =
    record {
      long : length l.rows.items ≡ l.counter;
      empty : (a : ℕ) → next (map (λ v. v.items) l.rows.items) a ≡ [];
    }
