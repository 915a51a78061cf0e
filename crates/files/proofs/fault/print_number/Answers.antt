use Rattle.std.proofs.Common.{◌∙◌}
use Rattle.devices.proofs.Printing.{prints_as}
use Rattle.files.proofs.fault.print_number.Goals as goal

pub returns : goal.returns
returns g c = prints_as (c.as_bytes.ensures.value ∙ c.format.ensures.text) c.print.ensures
