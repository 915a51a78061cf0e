use Rattle.std.proofs.Common.{sym, ap}
use Rattle.devices.proofs.Printing.{prints_as, then_print}
use Rattle.reports.specs.Lines.{spot_text}
use Rattle.reports.proofs.report_lines.print_spot.Goals as goal

pub returns-in-Place : goal.returns-in-Place
returns-in-Place g c =
    prints_as (ap (spot_text c.args.instance) (sym c.in-Place.is))
    (then_print (then_print (then_print c.print.ensures c.print_number.ensures) c.print-in-Place.ensures)
    c.print_number-in-Place.ensures)
