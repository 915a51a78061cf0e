use Rattle.partitions.specs.Views.{layout}
use Rattle.partition_refinement.specs.Firsts.{IsFirstOf}
use Rattle.partition_refinement.specs.steps.Working.{AreWritten}
use Rattle.partition_refinement.proofs.history.trace.Given as goal

abbrev pub invariant-loop-i : goal.invariant-loop-i
invariant-loop-i l =
    AreWritten (IsFirstOf (layout l.parts) l.low) l.initial.before.items l.before.items l.born l.i
