use Rattle.std.proofs.Common.{◌∙◌}
use Rattle.devices.proofs.Printing.{prints_as, then_print}
use Rattle.reports.proofs.report_lines.print_unchecked.Goals as goal

pub returns : goal.returns
returns g c =
    let kind = prints_as (c.as_bytes.ensures.value ∙ c.part_name.ensures) c.print-2.ensures in
    let name = prints_as c.as_bytes-2.ensures.value c.print-4.ensures in
    let reason = prints_as (c.as_bytes-3.ensures.value ∙ c.reason_name.ensures) c.print-6.ensures in
    then_print (then_print (then_print (then_print (then_print (then_print c.print.ensures kind) c.print-3.ensures) name)
    c.print-5.ensures) reason) c.print_byte.ensures
