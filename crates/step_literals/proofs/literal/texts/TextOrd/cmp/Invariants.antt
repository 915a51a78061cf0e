use Rattle.std.proofs.Common.{◌≡◌, length}
use Rattle.std.specs.Ordering.{nat_cmp}
use Rattle.std.specs.Cmp.Lexicographic.{slice_cmp}
use Rattle.step_literals.specs.ItemKeys.{items_key, text_key}
use Rattle.step_literals.specs.steps.Rests.{items_left}
use Rattle.step_literals.proofs.literal.texts.TextOrd.cmp.Given as goal

abbrev pub invariant-loop-item : goal.invariant-loop-item
invariant-loop-item l = slice_cmp nat_cmp (items_key (items_left l.mine)) (items_key (items_left l.theirs)) ≡ slice_cmp
    nat_cmp (text_key l.self) (text_key l.other)

abbrev pub decreases-loop-item : goal.decreases-loop-item
decreases-loop-item l = length (items_left l.mine)
