use Rattle.std.proofs.Common.{◌≡◌, ◌<◌, ◌^◌, ℕ, get_or, Some}
use Rattle.population_rows.specs.Index.{place_of}
use Rattle.value_equality.proofs.places.is_each_in_place.Given as goal

abbrev pub invariant-loop-n : goal.invariant-loop-n
invariant-loop-n l = record {
  placed : (k : ℕ) → k < l.n → place_of l.names (get_or l.names k 0) ≡ Some k;
  range : (k : ℕ) → k < l.n → get_or l.names k 0 < 2 ^ 64;
}
