use Rattle.std.proofs.Common.{map, ap}
use Rattle.step_exchange.specs.Views.{record_of, record_in}
use Rattle.step_structures.specs.Normal.{plain_record, plain_partial_records}
use Rattle.devices.proofs.Printing.{prints_as}
use Rattle.step_exchange.proofs.Writing.{prints_at}
use Rattle.step_structures.specs.MergedTexts.{led_record}
use Rattle.step_exchange.proofs.Printed.{led_partials_push}
use Rattle.step_exchange.proofs.print.print_partial_records.Goals as goal

pub loop-i-preserved : goal.loop-i-preserved
loop-i-preserved g c =
    let h = g.L.Leads.led c.args.leads.now in
    prints_at (λ xs. plain_partial_records (map (led_record h) (map record_in xs)))
    (λ x. plain_record (led_record h (record_in x)))
    (led_partials_push h) c.args.partials.now c.loop-i.i c.at.result c.at.ensures c.loop-i.invariant
    (prints_as (ap (λ xs. plain_record (led_record h (record_of xs))) c.parts.ensures) c.print_parts.ensures)
