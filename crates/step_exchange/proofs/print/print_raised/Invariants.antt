use Rattle.std.proofs.Common.{take}
use Rattle.devices.specs.steps.Prints.{Prints}
use Rattle.step_literals.specs.Words.{upper}
use Rattle.step_exchange.proofs.print.print_raised.Given as goal

abbrev pub invariant-loop-byte : goal.invariant-loop-byte
invariant-loop-byte g l = Prints g.S.Sink.held g.S.Sink.has_failed l.fn.out l.out l.fn.printer l.printer
    (upper (take l.byte-index l.word))
