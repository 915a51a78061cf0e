use Rattle.std.proofs.Common.{sym}
use Rattle.devices.proofs.Printing.{prints_as}
use Rattle.step_exchange.proofs.print.print_upper.Goals as goal

pub returns-then-stands_raised : goal.returns-then-stands_raised
returns-then-stands_raised g c = prints_as (sym (c.stands_raised.ensures c.if-stands_raised.true)) c.print.ensures
