use Rattle.std.proofs.Common.{sym, ap}
use Rattle.devices.proofs.Printing.{prints_as, then_print}
use Rattle.schema_unchecked_declarations.specs.UncheckedLists.{label_name}
use Rattle.reports.proofs.labels.print_label.Goals as goal

pub returns-in-Of : goal.returns-in-Of
returns-in-Of g c = prints_as (ap label_name (sym c.in-Of.is)) c.print_capitals.ensures

pub returns-in-Dotted : goal.returns-in-Dotted
returns-in-Dotted g c =
    prints_as (ap label_name (sym c.in-Dotted.is))
    (then_print c.print_capitals-in-Dotted.ensures
    (then_print c.print_byte.ensures c.print_capitals-in-Dotted-2.ensures))

pub returns-in-Numbered : goal.returns-in-Numbered
returns-in-Numbered g c =
    prints_as (ap label_name (sym c.in-Numbered.is))
    (then_print c.print_capitals-in-Numbered.ensures (then_print c.print.ensures c.print_number.ensures))
