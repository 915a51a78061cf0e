use Rattle.std.proofs.Common.{◌-◌, length}
use Rattle.graphs.specs.Rounds.{AreMarkedUpTo}
use Rattle.graphs.proofs.order_building.first_unmarked.Given as goal

abbrev pub invariant-loop-at : goal.invariant-loop-at
invariant-loop-at l = AreMarkedUpTo l.marks l.row l.at

abbrev pub decreases-loop-at : goal.decreases-loop-at
decreases-loop-at l = length l.row - l.at
