use Rattle.devices.proofs.Printing.{then_print}
use Rattle.reports.proofs.merge_lines.print_role.Goals as goal

pub returns : goal.returns
returns g c = then_print c.print.ensures c.print-2.ensures
