use Rattle.std.proofs.Common.{ℕ}
use Rattle.partitions.specs.Views.{layout}
use Rattle.split_checks.specs.steps.ComputedWalk.{Stands}
use Rattle.split_checks.proofs.group_walk.have_ground.Given as goal

abbrev pub invariant-loop-end : goal.invariant-loop-end
invariant-loop-end l =
    (r : ℕ) × Stands l.moves l.own l.shapes l.edges r l.end (layout l.labels) (layout l.groups)

abbrev pub decreases-loop-end : goal.decreases-loop-end
decreases-loop-end l = l.end
