use Rattle.std.proofs.Common.{◌∙◌}
use Rattle.devices.proofs.Printing.{then_print, prints_as}
use Rattle.step_exchange.proofs.print.print_name.Goals as goal

pub returns : goal.returns
returns g c = then_print c.print_byte.ensures (prints_as (c.as_bytes.ensures.value ∙ c.format.ensures.text)
    c.print.ensures)
