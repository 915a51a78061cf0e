use Rattle.std.proofs.Common.{◌∙◌, sym}
use Rattle.devices.proofs.Printing.{prints_as, then_print}
use Rattle.files.proofs.Saying.{count_told}
use Rattle.files.proofs.fault.print_count.Goals as goal

pub returns-then-is_counted : goal.returns-then-is_counted
returns-then-is_counted g c =
    prints_as (count_told c.args.role c.args.written (sym c.is_counted.ensures ∙ c.if-is_counted.true))
    (then_print (then_print c.print.ensures c.print_number.ensures) c.print-then-is_counted.ensures)
