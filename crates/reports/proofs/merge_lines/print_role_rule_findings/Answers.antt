use Rattle.std.proofs.Common.{sym, add-one}
use Rattle.devices.proofs.Printing.{prints_as, then_print}
use Rattle.reports.specs.Lines.{rule_finding_line}
use Rattle.reports.specs.MergeLines.{role_line}
use Rattle.reports.proofs.Lines.{lines-next}
use Rattle.reports.proofs.merge_lines.print_role_rule_findings.Goals as goal

pub loop-finding-preserved : goal.loop-finding-preserved
loop-finding-preserved g c =
    rw add-one (prints_as (sym (lines-next (λ f. role_line c.args.role.now (rule_finding_line f)) c.args.findings.now c.loop-finding.finding-index c.finding-item.result c.finding-item.result c.loop-finding-test.true (sym c.finding-item.is)))
    (then_print c.loop-finding.invariant (then_print c.print_role.ensures c.print_rule_finding.ensures)))
