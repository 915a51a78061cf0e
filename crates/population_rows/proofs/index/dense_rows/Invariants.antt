use Rattle.std.proofs.Common.{◌≡◌, ℕ, length, map, take}
use Rattle.population_rows.specs.Index.{place_of, dense_at, told}
use Rattle.population_rows.proofs.index.dense_rows.Given as goal

abbrev pub invariant-loop-n : goal.invariant-loop-n
invariant-loop-n l =
    (length l.rows.items ≡ l.width) × ((y : ℕ) → dense_at l.least (map told l.rows.items) y ≡ place_of (take l.n l.names) y)
