use Rattle.std.proofs.Common.{◌≡◌, ◌++◌, take}
use Rattle.split_checks.specs.steps.ComputedUndoing.{pairs_of}
use Rattle.split_checks.proofs.moves.push_start.Given as goal

abbrev pub invariant-loop-place : goal.invariant-loop-place
invariant-loop-place l = l.moves.items ≡ l.fn.moves.items ++ pairs_of 0 l.class (take l.place-index l.places)
