use Rattle.std.proofs.Common.{ap}
use Rattle.std.specs.Prelude.{◌+◌, flat_map, codes, length}
use Rattle.devices.proofs.Printing.{prints_as, then_print}
use Rattle.reports.specs.Lines.{unchecked_line, finding_line, rule_finding_line, count_line}
use Rattle.reports.proofs.report_lines.print_lines.Goals as goal

pub returns : goal.returns
returns g c =
    let found = c.as_slice-findings.ensures.value in
    let broken = c.as_slice-rule_findings.ensures.value in
    let parts = prints_as (ap (flat_map unchecked_line) c.deref.ensures.value) c.print_parts.ensures in
    let findings = prints_as (ap (flat_map finding_line) found) c.print_findings.ensures in
    let rules = prints_as (ap (flat_map rule_finding_line) broken) c.print_rule_findings.ensures in
    let last = prints_as (λ i. count_line (codes "findings ") (length (found i) + length (broken i)))
    c.print_count-3.ensures in
    then_print (then_print (then_print (then_print (then_print parts findings) rules) c.print_count.ensures)
    c.print_count-2.ensures) last
