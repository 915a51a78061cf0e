use Rattle.std.proofs.Common.{◌≡◌, nat_eq, ℕ, take}
use Rattle.indexmap.specs.IndexMap.{get}
use Rattle.population_rows.specs.Index.{place_of}
use Rattle.population_rows.proofs.index.hashed_rows.Given as goal

abbrev pub invariant-loop-n : goal.invariant-loop-n
invariant-loop-n l = (y : ℕ) → get nat_eq l.rows y ≡ place_of (take l.n l.names) y
