use Rattle.std.proofs.Common.{length, ◌-◌, ◌≡◌, ◌<◌, ◌≤◌, ℕ}
use Rattle.partitions.specs.steps.Steps.{number_at}
use Rattle.partitions.specs.Views.{layout}
use Rattle.partitions.proofs.Keys.{IsPartedByFirst}
use Rattle.partitions.proofs.parts.Parts.part_in_order.Given as goal

abbrev pub invariant-loop-at : goal.invariant-loop-at
invariant-loop-at l = record {
  parted : IsPartedByFirst (number_at l.numbers l.order) l.order (layout l.initial.self) (layout l.self) l.at;
  within : l.at ≤ length l.order;
  apart : (j k : ℕ) → j < l.at → l.at ≤ k → k < length l.order
      → number_at l.numbers l.order j ≡ number_at l.numbers l.order k → ⊥;
}

abbrev pub decreases-loop-at : goal.decreases-loop-at
decreases-loop-at l = length l.order - l.at
