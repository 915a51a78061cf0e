use Rattle.std.proofs.Common.{◌≡◌, length, take}
use Rattle.graphs.specs.Rounds.{AreMarks}
use Rattle.graphs.proofs.cycles.marks_on.Given as goal

abbrev pub invariant-loop-number : goal.invariant-loop-number
invariant-loop-number l =
    record {
      long : length l.marks.items ≡ l.count;
      marks : AreMarks l.marks.items (take l.number-index l.numbers);
    }
