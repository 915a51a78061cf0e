use Rattle.std.proofs.Common.{length, ◌-◌, ◌≡◌, ◌<◌, ◌≤◌, ℕ}
use Rattle.partitions.specs.steps.Steps.{number_at}
use Rattle.partitions.proofs.runs.number_end.Given as goal

abbrev pub invariant-loop-end : goal.invariant-loop-end
invariant-loop-end l = record {
  later : l.at < l.end;
  within : l.end ≤ length l.order;
  same : (k : ℕ) → k < l.end → l.at ≤ k → number_at l.numbers l.order k ≡ number_at l.numbers l.order l.at;
}

abbrev pub decreases-loop-end : goal.decreases-loop-end
decreases-loop-end l = length l.order - l.end
