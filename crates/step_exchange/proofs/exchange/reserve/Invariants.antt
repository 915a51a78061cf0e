use Rattle.std.proofs.Common.{◌≡◌}
use Rattle.step_exchange.proofs.exchange.reserve.Given as goal

abbrev pub invariant-loop-more_cells : goal.invariant-loop-more_cells
invariant-loop-more_cells l = l.reader ≡ l.fn.reader

abbrev pub decreases-loop-more_cells : goal.decreases-loop-more_cells
decreases-loop-more_cells l = l.more_cells
