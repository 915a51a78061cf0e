use Rattle.devices.proofs.Printing.{then_print}
use Rattle.devices.proofs.printer.Printer.make_way.Goals as goal

pub returns-else-bytes-lt-ROOM : goal.returns-else-bytes-lt-ROOM
returns-else-bytes-lt-ROOM g c = then_print c.flush.ensures.prints c.pass.ensures
