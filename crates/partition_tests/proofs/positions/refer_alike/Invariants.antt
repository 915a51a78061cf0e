use Rattle.std.proofs.Common.{ℕ, ◌<◌}
use Rattle.partition_tests.specs.steps.Order.{SharesPosition}
use Rattle.partition_tests.proofs.positions.refer_alike.Given as goal

abbrev pub invariant-loop-i : goal.invariant-loop-i
invariant-loop-i l = (k : ℕ) → k < l.i → SharesPosition l.edges l.shapes k
