use Rattle.std.proofs.Common.{◌≡◌, ◌++◌, take}
use Rattle.split_checks.specs.steps.ComputedUndoing.{pairs_of}
use Rattle.split_checks.proofs.undone_births.poured.Given as goal

abbrev pub invariant-loop-place : goal.invariant-loop-place
invariant-loop-place l = record {
  all : l.into.items ≡ l.fn.into.items ++ take l.place-index l.from;
  noted : l.moves.items ≡ l.fn.moves.items ++ pairs_of l.round l.number (take l.place-index l.from);
}
