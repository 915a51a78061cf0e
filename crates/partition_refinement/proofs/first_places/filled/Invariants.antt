use Rattle.std.proofs.Common.{ℕ, length, ◌≡◌, ◌<◌}
use Rattle.std.specs.Prelude.{slice_index}
use Rattle.partition_refinement.proofs.first_places.filled.Given as goal

abbrev pub invariant-loop-i : goal.invariant-loop-i
invariant-loop-i l = record {
  length : length l.all.items ≡ l._i;
  each : (k : ℕ) → k < l._i → slice_index l.all.items k ≡ l.number;
}
