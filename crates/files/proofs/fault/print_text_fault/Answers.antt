use Rattle.std.proofs.Common.{◌∙◌}
use Rattle.devices.proofs.Printing.{prints_as, then_print}
use Rattle.files.proofs.fault.print_text_fault.Goals as goal

pub returns : goal.returns
returns g c =
    let role = prints_as (c.as_bytes.ensures.value ∙ c.name.ensures) c.print.ensures in
    let kind = prints_as (c.as_bytes-2.ensures.value ∙ c.name-2.ensures) c.print-3.ensures in
    then_print (then_print (then_print (then_print role c.print-2.ensures) kind) c.print-4.ensures)
    c.print_number.ensures
