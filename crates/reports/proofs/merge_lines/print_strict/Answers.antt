use Rattle.devices.proofs.Printing.{emits_all, fails_with, then_print}
use Rattle.reports.proofs.merge_lines.print_strict.Goals as goal

pub returns-clause-emits : goal.returns-clause-emits
returns-clause-emits g c =
    emits_all c.new-printer.ensures (then_print (then_print (then_print c.print.ensures c.print_number.ensures) c.print-2.ensures)
    c.print_byte.ensures) c.finish.ensures

pub returns-clause-failed : goal.returns-clause-failed
returns-clause-failed g c =
    fails_with c.new-printer.ensures (then_print (then_print (then_print c.print.ensures c.print_number.ensures) c.print-2.ensures)
    c.print_byte.ensures) c.finish.ensures
