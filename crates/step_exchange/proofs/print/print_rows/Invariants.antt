use Rattle.std.proofs.Common.{take}
use Rattle.devices.specs.steps.Prints.{Prints}
use Rattle.step_exchange.specs.Views.{rows_with}
use Rattle.step_structures.specs.Normal.{plain_rows}
use Rattle.step_structures.specs.MergedTexts.{merged_rows}
use Rattle.step_exchange.proofs.print.print_rows.Given as goal

abbrev pub invariant-loop-i : goal.invariant-loop-i
invariant-loop-i g l = Prints g.S.Sink.held g.S.Sink.has_failed l.fn.out l.out l.fn.printer l.printer
    (plain_rows (merged_rows (g.L.Leads.led l.leads) (rows_with (take l.i l.names) (take l.i l.forms))))
