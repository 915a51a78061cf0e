use Rattle.std.proofs.Common.{◌≡◌, Some, get_or, slice_get, sym, ap, ◌∙◌, add-one}
use Rattle.std.proofs.lemmas.Option.{slice_get-get_or}
use Rattle.step_structures.specs.Normal.{plain_rows}
use Rattle.devices.proofs.Printing.{then_print, prints_as}
use Rattle.step_structures.specs.MergedTexts.{merged_rows}
use Rattle.step_exchange.proofs.Writing.{rows_all, rows_short}
use Rattle.step_exchange.proofs.Printed.{led_rows_push}
use Rattle.step_exchange.proofs.print.print_rows.Goals as goal

pub returns-in_default : goal.returns-in_default
returns-in_default g c = prints_as (ap (λ rs. plain_rows (merged_rows (g.L.Leads.led c.args.leads.now) rs))
    (rows_short c.args.names.now c.args.forms.now c.loop-i.i (sym c.item.ensures ∙ c.in_default.is)))
    c.loop-i.invariant

pub loop-i-preserved : goal.loop-i-preserved
loop-i-preserved g c =
    let ns = c.args.names.now in
    let i = c.loop-i.i in
    let name : slice_get ns i ≡ Some (get_or ns i 0) = slice_get-get_or ns i 0 c.loop-i-test.true in
    let push = led_rows_push (g.L.Leads.led c.args.leads.now) ns c.args.forms.now i (get_or ns i 0) c.in-Some.form name
    (sym c.item.ensures ∙ c.in-Some.is) in
    rw add-one (prints_as (sym push) (then_print c.loop-i.invariant c.print_row.ensures))

pub returns : goal.returns
returns g c = prints_as (ap (λ rs. plain_rows (merged_rows (g.L.Leads.led c.args.leads.now) rs))
    (rows_all c.args.names.now c.args.forms.now c.loop-i.i c.loop-i-test.false)) c.loop-i.invariant
