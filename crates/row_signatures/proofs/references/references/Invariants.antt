use Rattle.std.proofs.Common.{◌≡◌, ◌+◌, length, drop}
use Rattle.std.specs.List.{sum_by}
use Rattle.row_signatures.specs.steps.ComputedReferences.{AreOfFirst}
use Rattle.row_signatures.proofs.Referring.{reference_count}
use Rattle.row_signatures.proofs.references.references.Given as goal

abbrev pub invariant-loop-place : goal.invariant-loop-place
invariant-loop-place l = record {
  edges : AreOfFirst l.input l.place l.edges.items;
  count : length l.edges.items + sum_by reference_count (drop l.place l.input) ≡ sum_by reference_count l.input;
}
