use Rattle.std.proofs.Common.{ℕ, length, ◌≡◌, ◌<◌}
use Rattle.std.specs.Prelude.{slice_index}
use Rattle.partitions.specs.Layouts.{class_in}
use Rattle.partitions.specs.Views.{layout}
use Rattle.partition_refinement.proofs.numbering.heads.Given as goal

abbrev pub invariant-loop-place : goal.invariant-loop-place
invariant-loop-place l = record {
  length : length l.heads.items ≡ l.place;
  each : (x : ℕ) → x < l.place → slice_index l.heads.items x ≡ slice_index l.first_places (class_in (layout l.parts) x);
}
