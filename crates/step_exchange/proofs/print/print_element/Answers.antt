use Rattle.devices.proofs.Printing.{then_print}
use Rattle.step_exchange.proofs.print.print_element.Goals as goal

pub returns : goal.returns
returns g c = then_print (then_print c.print_byte.ensures c.print_upper.ensures) c.print_byte-2.ensures
