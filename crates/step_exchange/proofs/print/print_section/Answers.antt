use Rattle.devices.proofs.Printing.{then_print}
use Rattle.step_exchange.proofs.print.print_section.Goals as goal

pub returns : goal.returns
returns g c = then_print (then_print (then_print (then_print c.print.ensures c.print_heading.ensures) c.print-2.ensures)
    c.print_rows.ensures) c.print-3.ensures
