use Rattle.std.proofs.Common.{◌≡◌, ℕ, ◌<◌}
use Rattle.std.specs.Prelude.{slice_index}
use Rattle.partition_edges.specs.Edges.{HasEdge}
use Rattle.partition_tests.proofs.positions.all_refer_at.Given as goal

abbrev pub invariant-loop-z : goal.invariant-loop-z
invariant-loop-z l = (k : ℕ) → k < l.z → slice_index l.shapes l.place ≡ slice_index l.shapes k
    → (t : ℕ) × HasEdge l.edges k l.position t
