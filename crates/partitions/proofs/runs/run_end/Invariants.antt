use Rattle.std.proofs.Common.{length, ◌-◌, ◌≡◌, ◌<◌, ◌≤◌, ℕ}
use Rattle.partitions.specs.steps.Steps.{key_at}
use Rattle.partitions.proofs.runs.run_end.Given as goal

abbrev pub invariant-loop-end : goal.invariant-loop-end
invariant-loop-end l = record {
  later : l.at < l.end;
  within : l.end ≤ length l.pairs;
  same : (k : ℕ) → k < l.end → l.at ≤ k → key_at l.pairs k ≡ key_at l.pairs l.at;
}

abbrev pub decreases-loop-end : goal.decreases-loop-end
decreases-loop-end l = length l.pairs - l.end
