use Rattle.value_equality.specs.Maps.{is_pinned}
use Rattle.row_signatures.specs.steps.ComputedKinds.{AreNumbers, AreRecent, first_in}
use Rattle.row_signatures.proofs.kinds.kinds.Given as goal

abbrev pub invariant-loop-place : goal.invariant-loop-place
invariant-loop-place l =
    AreNumbers (is_pinned l.pinned) l.input l.numbers.items (first_in l.firsts.entries) l.place
    × AreRecent l.input (first_in l.firsts.entries) l.recent.items
