use Rattle.std.proofs.Common.{◌≡◌, ℕ, ◌<◌, true, false, length, drop, get_or}
use Rattle.graphs.specs.Graphs.{has}
use Rattle.graphs.proofs.rows.unmark.Given as goal

abbrev pub invariant-loop-y : goal.invariant-loop-y
invariant-loop-y l =
    record {
      left : (b : ℕ) → b < length l.marks → get_or l.marks b false ≡ true → has (drop l.y-index l.found) b ≡ true;
      same : length l.marks ≡ length l.fn.marks;
    }
