use Rattle.std.proofs.Common.{◌≡◌, length, drop}
use Rattle.graphs.specs.Rounds.{added, AreMarks}
use Rattle.graphs.proofs.rows.add_new.Given as goal

abbrev pub invariant-loop-y : goal.invariant-loop-y
invariant-loop-y l =
    record {
      left : added l.found.items (drop l.y-index l.more) ≡ added l.fn.found.items l.more;
      marked : AreMarks l.marks l.found.items;
      same : length l.marks ≡ length l.fn.marks;
    }
