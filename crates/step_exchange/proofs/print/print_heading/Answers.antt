use Rattle.std.proofs.Common.{ap, sym}
use Rattle.step_structures.specs.Normal.{plain_heading}
use Rattle.step_exchange.specs.Sections.{heading_of}
use Rattle.devices.proofs.Printing.{then_print, prints_as}
use Rattle.step_exchange.proofs.print.print_heading.Goals as goal

pub returns-in-Some : goal.returns-in-Some
returns-in-Some g c =
    let name = prints_as (ap (λ b. b.now) c.spelling.ensures) c.print-in-Some.ensures in
    let schema = prints_as (ap (λ b. b.now) c.spelling-in-Some.ensures) c.print-in-Some-3.ensures in
    prints_as (ap (λ h. plain_heading (heading_of h)) (sym c.in-Some.is))
    (then_print (then_print (then_print (then_print c.print.ensures name) c.print-in-Some-2.ensures) schema)
    c.print-in-Some-4.ensures)
