use Rattle.std.proofs.Common.{◌≡◌, length, [], false}
use Rattle.devices.specs.steps.Prints.{Sends}
use Rattle.devices.proofs.printer.send.Given as goal

abbrev pub invariant-loop-rest : goal.invariant-loop-rest
invariant-loop-rest g l = record {
  sent : Sends (g.S.Sink.held l.initial.out) (g.S.Sink.held l.out) [] l.initial.written l.written l.fn.bytes l.rest;
  fine : g.S.Sink.has_failed l.initial.out ≡ false → g.S.Sink.has_failed l.out ≡ false;
}

abbrev pub decreases-loop-rest : goal.decreases-loop-rest
decreases-loop-rest g l = length l.rest
