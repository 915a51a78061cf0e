use Rattle.std.proofs.Common.{◌≡◌, ℕ, ◌||◌, ◌&&◌, length, map, take, eqb}
use Rattle.graphs.specs.Graphs.{has, next}
use Rattle.graphs.proofs.rows.add_to_rows.Given as goal

abbrev pub invariant-loop-row : goal.invariant-loop-row
invariant-loop-row l =
    record {
      same : length l.rows ≡ length l.fn.rows;
      added : (b c : ℕ) → has (next (map (λ v. v.items) l.rows) b) c
          ≡ (has (next (map (λ v. v.items) l.fn.rows) b) c || (has (take l.row-index l.which) b && eqb c l.number));
    }
