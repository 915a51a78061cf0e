use Rattle.value_equality.specs.Maps.{is_pinned}
use Rattle.row_signatures.specs.steps.ComputedShapes.{AreShapeNumbers}
use Rattle.row_signatures.proofs.shapes.shapes.Given as goal

abbrev pub invariant-loop-place : goal.invariant-loop-place
invariant-loop-place l =
    AreShapeNumbers l.start (is_pinned l.pinned) l.input l.numbers.items l.firsts.entries l.place
