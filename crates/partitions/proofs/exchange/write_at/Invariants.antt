use Rattle.std.proofs.Common.{◌≡◌, ◌<◌, ◌≤◌, ℕ, length, get_or}
use Rattle.partitions.proofs.exchange.write_at.Given as goal

abbrev pub invariant-loop-q : goal.invariant-loop-q
invariant-loop-q l = record {
  length : length l.class ≡ length l.initial.class;
  there : (k : ℕ) → k < l.q → l.from ≤ k → get_or l.class (get_or l.order k 0) 0 ≡ l.number;
  elsewhere : (x : ℕ) → ((k : ℕ) → k < l.q → l.from ≤ k → get_or l.order k 0 ≡ x → ⊥)
      → get_or l.class x 0 ≡ get_or l.initial.class x 0;
}
