-- Moves tell which splits have their grounds.
use Rattle.std.proofs.Common.{◌≡◌, ◌<◌, ℕ, ◌+◌, Bool, true, List, length, arith}
use Rattle.std.specs.Prelude.{◌↔◌}
use Rattle.partitions.specs.declared.pairs.Pair.{Pair}
use Rattle.partition_edges.specs.declared.edges.Edge.{Edge}
use Rattle.partition_edges.specs.Edges.{AreEdges}
use Rattle.partition_edges.proofs.Agreement.{agree_map}
use Rattle.split_checks.specs.declared.births.Birth.{Birth}
use Rattle.split_checks.specs.steps.Births.{Shared}
use Rattle.split_checks.specs.steps.ComputedWalk.{MovesHaveGrounds}
use Rattle.split_checks.specs.steps.Grounds.{HaveGrounds, StandForOne}
use Rattle.split_checks.specs.steps.Moves.{AreMoves, MovedAlike}

module _ (births : List Birth) (last own shapes : List ℕ) (edges : List Edge) (moves : List Pair)
    (are : AreMoves births last moves) (each : length own ≡ length last) (inside : AreEdges (length last) edges) where
  to : MovesHaveGrounds moves own shapes edges → HaveGrounds births last own shapes edges
  to h r x z l m e shape a = (are.tell (r + 1) x z l m).1 (h r x z (omega (arith, l, each)) (omega (arith, m, each))
      ((are.tell r x z l m).0 e) shape
      (agree_map edges (length last) (StandForOne own (Shared births last r)) (StandForOne own (MovedAlike moves r)) x z
      inside (λ t u o v w. (w.0, (are.tell r t u o v).0 w.1)) a))

  from : HaveGrounds births last own shapes edges → MovesHaveGrounds moves own shapes edges
  from h r x z l m e shape a =
      let x_in : x < length last = omega (arith, l, each) in
      let z_in : z < length last = omega (arith, m, each) in
      (are.tell (r + 1) x z x_in z_in).0 (h r x z x_in z_in ((are.tell r x z x_in z_in).1 e) shape
      (agree_map edges (length last) (StandForOne own (MovedAlike moves r)) (StandForOne own (Shared births last r)) x z
      inside (λ t u o v w. (w.0, (are.tell r t u o v).1 w.1)) a))

  pub told : (b : Bool) → (b ≡ true) ↔ MovesHaveGrounds moves own shapes edges
      → (b ≡ true) ↔ HaveGrounds births last own shapes edges
  told b h = (λ e. to (h.0 e), λ g. h.1 (from g))
