use Rattle.devices.proofs.Printing.{emits_all}
use Rattle.step_exchange_tests.proofs.printer.write_row.Goals as goal

pub returns-clause-emits : goal.returns-clause-emits
returns-clause-emits g c = emits_all c.new-printer.ensures c.print_row.ensures c.finish.ensures
