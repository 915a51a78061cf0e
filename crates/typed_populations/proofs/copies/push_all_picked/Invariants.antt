use Rattle.std.proofs.Common.{drop}
use Rattle.typed_populations.specs.ValueOrder.{picked}
use Rattle.typed_populations.proofs.Copied.{PushesUpTo}
use Rattle.typed_populations.proofs.copies.push_all_picked.Given as goal

abbrev pub invariant-loop-position : goal.invariant-loop-position
invariant-loop-position l =
    PushesUpTo l.initial.builder l.builder (picked l.values l.positions)
    (picked l.values (drop l.position-index l.positions))
