use Rattle.std.proofs.Common.{◌+◌, ◌*◌, ◌-◌, length}
use Rattle.step_lexer.specs.Reading.{left}
use Rattle.step_records.specs.steps.Readers.{reading}
use Rattle.step_records.proofs.Pushing.{ItemsSoFar}
use Rattle.step_records.proofs.params.+params.Given as goal

abbrev pub decreases-items : goal.decreases-items
decreases-items l = 8 * (64 - l.depth) + 6

abbrev pub decreases-first_item : goal.decreases-first_item
decreases-first_item l = 8 * (64 - l.depth) + 5

abbrev pub decreases-item : goal.decreases-item
decreases-item l = 8 * (64 - l.depth) + 5

abbrev pub decreases-first_item_any : goal.decreases-first_item_any
decreases-first_item_any l = 8 * (64 - l.depth) + 4

abbrev pub decreases-item_any : goal.decreases-item_any
decreases-item_any l = 8 * (64 - l.depth) + 4

abbrev pub decreases-value : goal.decreases-value
decreases-value l = 8 * (64 - l.depth) + 3

abbrev pub decreases-typed : goal.decreases-typed
decreases-typed l = 8 * (64 - l.depth) + 2

abbrev pub decreases-next_item : goal.decreases-next_item
decreases-next_item l = 8 * (64 - l.depth) + 2

abbrev pub decreases-list : goal.decreases-list
decreases-list l = 8 * (64 - l.depth) + 1

abbrev pub decreases-inner : goal.decreases-inner
decreases-inner l = 8 * (64 - l.depth) + 1

abbrev pub invariant-items-loop-reader : goal.invariant-items-loop-reader
invariant-items-loop-reader l = ItemsSoFar l.depth l.fn.reader l.reader

abbrev pub decreases-items-loop-reader : goal.decreases-items-loop-reader
decreases-items-loop-reader l = length (left (reading l.reader))
