use Rattle.std.proofs.Common.{◌≡◌, ◌≤◌, ◌+◌, length, drop}
use Rattle.step_values.specs.steps.Targets.{targets_of}
use Rattle.row_signatures.proofs.references.reference_count.Given as goal

-- what is left is still to be counted
abbrev pub invariant-loop-place : goal.invariant-loop-place
invariant-loop-place l = record {
  within : l.count ≤ l.place;
  left : l.count + length (targets_of (drop l.place l.cells)) ≡ length (targets_of l.cells);
}
