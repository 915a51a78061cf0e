use Rattle.std.proofs.Common.{rules}
use Rattle.devices.proofs.Printing.{printing}
use Rattle.step_exchange_tests.proofs.printer.print_row.Goals as goal

pub returns : goal.returns
returns g c = search (rules, printing)
