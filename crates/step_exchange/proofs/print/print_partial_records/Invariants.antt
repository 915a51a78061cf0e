use Rattle.std.proofs.Common.{take, map}
use Rattle.devices.specs.steps.Prints.{Prints}
use Rattle.step_exchange.specs.Views.{record_in}
use Rattle.step_structures.specs.Normal.{plain_partial_records}
use Rattle.step_structures.specs.MergedTexts.{led_record}
use Rattle.step_exchange.proofs.print.print_partial_records.Given as goal

abbrev pub invariant-loop-i : goal.invariant-loop-i
invariant-loop-i g l = Prints g.S.Sink.held g.S.Sink.has_failed l.fn.out l.out l.fn.printer l.printer
    (plain_partial_records (map (led_record (g.L.Leads.led l.leads)) (map record_in (take l.i l.partials))))
