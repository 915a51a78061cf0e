use Rattle.devices.proofs.Printing.{then_print}
use Rattle.reports.proofs.report_lines.print_count.Goals as goal

pub returns : goal.returns
returns g c = then_print (then_print c.print.ensures c.print_number.ensures) c.print_byte.ensures
