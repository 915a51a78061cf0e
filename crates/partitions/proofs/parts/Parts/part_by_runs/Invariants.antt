use Rattle.std.proofs.Common.{length, ◌-◌, ◌≡◌, ◌<◌, ◌≤◌, ℕ}
use Rattle.partitions.specs.steps.Steps.{key_at}
use Rattle.partitions.specs.Views.{layout}
use Rattle.partitions.proofs.Keys.{IsPartedByFirst}
use Rattle.partitions.proofs.parts.Parts.part_by_runs.Given as goal

abbrev pub invariant-loop-at : goal.invariant-loop-at
invariant-loop-at l = record {
  parted : IsPartedByFirst (key_at l.pairs) l.places (layout l.initial.self) (layout l.self) l.at;
  within : l.at ≤ length l.pairs;
  apart : (j k : ℕ) → j < l.at → l.at ≤ k → k < length l.pairs → key_at l.pairs j ≡ key_at l.pairs k → ⊥;
  long : length l.places ≡ length l.pairs;
}

abbrev pub decreases-loop-at : goal.decreases-loop-at
decreases-loop-at l = length l.pairs - l.at
