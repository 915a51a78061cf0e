use Rattle.std.proofs.Common.{◌-◌}
use Rattle.partitions.specs.Layouts.{Layout}
use Rattle.partitions.specs.Views.{layout}
use Rattle.partition_refinement.proofs.Turns.{IsTurn}
use Rattle.partition_refinement.proofs.refinement.refine.Given as goal

abbrev pub invariant-loop-high : goal.invariant-loop-high
invariant-loop-high l = (b : Layout)
    × IsTurn l.edges l.shapes (layout l.fn.parts) b (layout l.parts) l.counts.items l.high

abbrev pub decreases-loop-high : goal.decreases-loop-high
decreases-loop-high l = 4294967296 - l.high
