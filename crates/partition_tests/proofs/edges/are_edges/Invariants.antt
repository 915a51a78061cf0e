use Rattle.std.proofs.Common.{ℕ, ◌<◌}
use Rattle.partition_tests.specs.steps.Order.{GoesOn}
use Rattle.partition_tests.proofs.edges.are_edges.Given as goal

abbrev pub invariant-loop-i : goal.invariant-loop-i
invariant-loop-i l = (k : ℕ) → k < l.i → GoesOn l.size l.edges k
