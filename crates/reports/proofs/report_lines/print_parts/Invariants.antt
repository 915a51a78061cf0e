use Rattle.std.specs.Prelude.{flat_map, take}
use Rattle.devices.specs.steps.Prints.{Prints}
use Rattle.reports.specs.Lines.{unchecked_line}
use Rattle.reports.proofs.report_lines.print_parts.Given as goal

abbrev pub invariant-loop-part : goal.invariant-loop-part
invariant-loop-part g l =
    Prints g.S.Sink.held g.S.Sink.has_failed l.fn.out l.out l.fn.printer l.printer
    (flat_map unchecked_line (take l.part-index l.parts))
