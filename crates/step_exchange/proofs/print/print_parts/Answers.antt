use Rattle.std.proofs.Common.{ap, sym, ◌∙◌}
use Rattle.step_records.specs.Cells.{all_of}
use Rattle.step_literals.specs.Words.{upper}
use Rattle.step_structures.specs.Normal.{plain_trees}
use Rattle.devices.proofs.Printing.{then_print, prints_as}
use Rattle.step_structures.specs.MergedTexts.{led_trees}
use Rattle.step_exchange.proofs.SchemaNames.{values_behind}
use Rattle.step_exchange.proofs.print.print_parts.Goals as goal

pub returns : goal.returns
returns g c =
    let h = g.L.Leads.led c.args.leads.now in
    let keyword = prints_as (ap upper c.first_keyword.ensures) c.print_upper.ensures in
    let values = prints_as (ap (λ xs. plain_trees (led_trees h (all_of xs))) c.split-values.ensures.back
    ∙ ap (λ xs. plain_trees (led_trees h xs)) (sym (values_behind c.args.parts.now))) c.print_params.ensures in
    then_print (then_print (then_print keyword c.print_byte.ensures) values) c.print_byte-2.ensures
