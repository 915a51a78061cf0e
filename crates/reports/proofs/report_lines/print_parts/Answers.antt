use Rattle.std.proofs.Common.{sym, add-one}
use Rattle.devices.proofs.Printing.{prints_as, then_print}
use Rattle.reports.specs.Lines.{unchecked_line}
use Rattle.reports.proofs.Lines.{lines-next}
use Rattle.reports.proofs.report_lines.print_parts.Goals as goal

pub loop-part-preserved : goal.loop-part-preserved
loop-part-preserved g c =
    rw add-one (prints_as (sym (lines-next unchecked_line c.args.parts.now c.loop-part.part-index c.part-item.result c.part-item.result c.loop-part-test.true (sym c.part-item.is)))
    (then_print c.loop-part.invariant c.print_unchecked.ensures))
