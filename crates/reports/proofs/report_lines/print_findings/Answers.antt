use Rattle.std.proofs.Common.{refl, sym, add-one}
use Rattle.devices.proofs.Printing.{prints_as, then_print}
use Rattle.reports.specs.Lines.{finding_line}
use Rattle.reports.proofs.Lines.{lines-next}
use Rattle.reports.proofs.report_lines.print_findings.Goals as goal

pub loop-finding-preserved : goal.loop-finding-preserved
loop-finding-preserved g c =
    rw add-one (prints_as
    (sym (lines-next finding_line c.args.findings.now c.loop-finding.finding-index _ _ c.loop-finding-test.true refl))
    (then_print c.loop-finding.invariant c.print_finding.ensures))
