use Rattle.std.proofs.Common.{◌≡◌, false, List, map, refl, sym, ap, ◌∙◌}
use Rattle.step_structures.specs.Trees.{Tree, external}
use Rattle.step_exchange.specs.Views.{record_in, begins_with_keyword, form_of}
use Rattle.step_structures.specs.Normal.{plain_form}
use Rattle.devices.proofs.Printing.{then_print, prints_as}
use Rattle.step_structures.specs.MergedTexts.{led_form}
use Rattle.step_exchange.proofs.print.print_form.Goals as goal

partials : (xs : List Tree) → begins_with_keyword xs ≡ false → form_of xs ≡ external (map record_in xs)
partials xs e = rw e refl

pub returns-else-is_internal : goal.returns-else-is_internal
returns-else-is_internal g c = prints_as (ap (λ f. plain_form (led_form (g.L.Leads.led c.args.leads.now) f))
    (sym (partials c.args.parts.now (sym c.is_internal.ensures ∙ c.if-is_internal.false))))
    (then_print (then_print c.print_byte.ensures c.print_partial_records.ensures)
    c.print_byte-else-is_internal.ensures)
