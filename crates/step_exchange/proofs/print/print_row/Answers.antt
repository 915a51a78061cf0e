use Rattle.std.proofs.Common.{◌≡◌, ap, sym, ◌∙◌}
use Rattle.step_structures.specs.Trees.{ExchangeRow}
use Rattle.step_exchange.specs.Views.{form_of, form_in}
use Rattle.step_structures.specs.Normal.{plain_form}
use Rattle.devices.proofs.Printing.{then_print, prints_as}
use Rattle.step_structures.specs.MergedTexts.{led_form}
use Rattle.step_exchange.proofs.Printed.{kept_line}
use Rattle.step_exchange.proofs.print.print_row.Goals as goal

pub returns : goal.returns
returns g c =
    let h = g.L.Leads.led c.args.leads.now in
    let r : ExchangeRow = record { name = c.args.name; form = form_in c.args.form.now } in
    let stays : h c.args.name ≡ c.args.name = sym c.lead.ensures ∙ search in
    let form = prints_as (ap (λ xs. plain_form (led_form h (form_of xs))) c.parts.ensures) c.print_form.ensures in
    prints_as (kept_line h r stays)
    (then_print (then_print (then_print c.print_name.ensures c.print_byte.ensures) form) c.print.ensures)
