use Rattle.std.proofs.Common.{◌≡◌, suc, map}
use Rattle.value_equality.specs.Tables.{ancestor}
use Rattle.value_equality.specs.TableViews.{origin_of}
use Rattle.value_equality.proofs.table.class_above.Given as goal

abbrev pub invariant-loop-origin : goal.invariant-loop-origin
invariant-loop-origin l = ancestor (map origin_of l.classes) l.round (suc l.class) l.class ≡ ancestor
    (map origin_of l.classes) l.round (suc l.first) l.first

abbrev pub decreases-loop-origin : goal.decreases-loop-origin
decreases-loop-origin l = l.class
