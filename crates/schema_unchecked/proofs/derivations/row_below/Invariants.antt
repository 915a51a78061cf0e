use Rattle.std.proofs.Common.{◌≡◌, ◌++◌, drop}
use Rattle.schema_unchecked.specs.steps.Surveyed.{below}
use Rattle.schema_unchecked.proofs.derivations.row_below.Given as goal

abbrev pub invariant-loop-number : goal.invariant-loop-number
invariant-loop-number l = l.row.items ++ below l.count (drop l.number-index l.uses) ≡ below l.count l.uses
