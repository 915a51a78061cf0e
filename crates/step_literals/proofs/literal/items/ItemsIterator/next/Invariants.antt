use Rattle.std.proofs.Common.{◌≡◌, length}
use Rattle.step_literals.specs.Strings.{clean}
use Rattle.step_literals.specs.steps.Rests.{rest_items}
use Rattle.step_literals.proofs.literal.items.ItemsIterator.next.Given as goal

abbrev pub invariant-loop-item : goal.invariant-loop-item
invariant-loop-item l = rest_items l.fn.self.rest ≡ rest_items l.self.rest

abbrev pub decreases-loop-item : goal.decreases-loop-item
decreases-loop-item l = length (clean l.self.rest.bytes.now)
