use Rattle.std.proofs.Common.{◌∙◌}
use Rattle.devices.proofs.Printing.{prints_as, then_print}
use Rattle.reports.proofs.report_lines.print_rule_finding.Goals as goal

pub returns : goal.returns
returns g c =
    let name = prints_as (c.as_bytes.ensures.value ∙ c.rule_finding_name.ensures) c.print.ensures in
    then_print (then_print (then_print (then_print (then_print name c.print-2.ensures) c.print_number.ensures)
    c.print-3.ensures) c.print_label.ensures) c.print_byte.ensures
