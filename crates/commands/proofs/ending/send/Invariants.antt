use Rattle.std.proofs.Common.{◌≡◌, ◌++◌, List, ℕ, false, length}
use Rattle.std.specs.Io.KnownBytes.{Appends}
use Rattle.commands.proofs.ending.send.Given as goal

abbrev pub invariant-loop-rest : goal.invariant-loop-rest
invariant-loop-rest g l = record {
  sent : (sent : List ℕ) × (l.text ≡ sent ++ l.rest) × Appends (g.S.Sink.held l.initial.out) (g.S.Sink.held l.out) sent;
  fine : g.S.Sink.has_failed l.initial.out ≡ false → g.S.Sink.has_failed l.out ≡ false;
}

abbrev pub decreases-loop-rest : goal.decreases-loop-rest
decreases-loop-rest g l = length l.rest
