use Rattle.std.proofs.Common.{drop, ap, ◌∙◌}
use Rattle.step_exchange.specs.Views.{rows_with}
use Rattle.step_exchange.specs.Sections.{sections_of}
use Rattle.step_structures.specs.Normal.{plain_sections}
use Rattle.step_structures.specs.MergedTexts.{merged_sections}
use Rattle.devices.proofs.Printing.{then_print, prints_as, emits_all}
use Rattle.step_exchange.proofs.print.write_led.Goals as goal

pub returns-clause-emits : goal.returns-clause-emits
returns-clause-emits g c =
    let h = g.L.Leads.led c.args.leads.now in
    let n = c.args.exchange.now.header_len in
    let forms = c.split-forms.ensures.back ∙ ap (drop n) c.trees.ensures in
    let sections = prints_as (λ i. plain_sections (merged_sections h (sections_of 0 (c.deref.ensures.value i) (rows_with
    (c.as_slice.ensures i) (forms i))))) c.print_sections.ensures in
    emits_all c.new-printer.ensures (then_print (then_print (then_print c.print.ensures c.print-2.ensures) sections)
    c.print-3.ensures) c.finish.ensures
