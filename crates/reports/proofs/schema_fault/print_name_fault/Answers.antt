use Rattle.std.proofs.Common.{◌∙◌}
use Rattle.devices.proofs.Printing.{prints_as, then_print}
use Rattle.reports.proofs.schema_fault.print_name_fault.Goals as goal

pub returns : goal.returns
returns g c =
    let kind = prints_as (c.as_bytes.ensures.value ∙ c.name_fault_name.ensures) c.print-2.ensures in
    let name = prints_as c.as_bytes-2.ensures.value c.print-4.ensures in
    then_print (then_print (then_print c.print.ensures kind) c.print-3.ensures) name
