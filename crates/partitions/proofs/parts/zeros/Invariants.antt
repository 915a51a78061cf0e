use Rattle.std.proofs.Common.{length, ◌≡◌, ◌<◌, ℕ, get_or}
use Rattle.partitions.proofs.parts.zeros.Given as goal

abbrev pub invariant-loop-i : goal.invariant-loop-i
invariant-loop-i l = record {
  length : length l.all.items ≡ l.i;
  each : (k : ℕ) → k < l.i → get_or l.all.items k 0 ≡ 0;
}
