use Rattle.std.proofs.Common.{◌∙◌}
use Rattle.devices.proofs.Printing.{prints_as, then_print}
use Rattle.files.proofs.fault.print_device_fault.Goals as goal

pub returns : goal.returns
returns g c =
    let role = prints_as (c.as_bytes.ensures.value ∙ c.name.ensures) c.print-2.ensures in
    then_print (then_print c.print.ensures role) c.print_count.ensures
