use Rattle.std.proofs.Common.{◌∙◌}
use Rattle.devices.proofs.Printing.{prints_as, then_print}
use Rattle.commands.proofs.fault.print_bad_line.Goals as goal

pub returns : goal.returns
returns g c =
    let line = prints_as (c.as_bytes.ensures.value ∙ c.format.ensures.text) c.print-2.ensures in
    then_print c.print.ensures line
