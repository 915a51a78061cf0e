use Rattle.std.proofs.Common.{◌≡◌, length, ◌+◌}
use Rattle.step_literals.specs.Items.{string_items}
use Rattle.step_literals.specs.steps.Rests.{items_left}
use Rattle.parameter_fits.proofs.bounds.count_to.Given as goal

abbrev pub invariant-loop-count : goal.invariant-loop-count
invariant-loop-count l = (goal.iterator-loop-count).can_next l.items × (goal.iterator-loop-count).is_finite l.items
    × (length (items_left l.items) + l.count ≡ length (string_items l.text.text.now))
