use Rattle.std.proofs.Common.{rules, take, length, ◌≡◌, ◌≤◌, ◌∙◌, ◌∷◌, sym, ap, arith}
use Rattle.std.proofs.lemmas.List.{take_all}
use Rattle.devices.specs.steps.Prints.{Prints}
use Rattle.step_literals.specs.Words.{upper}
use Rattle.step_records.specs.Cells.{all_of}
use Rattle.step_records.specs.Params.{node_value}
use Rattle.step_records.proofs.Weights.{lighter}
use Rattle.step_structures.specs.Normal.{plain_tree, plain_more}
use Rattle.devices.proofs.Printing.{then_print, prints_as, prints_nothing, printing}
use Rattle.step_structures.specs.MergedTexts.{led_tree, led_trees}
use Rattle.step_exchange.proofs.Writing.{prints_at, lighter_behind}
use Rattle.step_exchange.proofs.Printed.{led_more_push, led_first, no_led, literals_led}
use Rattle.step_exchange.proofs.print.+params.Goals as goal

pub print_node-returns-in-Typed : goal.print_node-returns-in-Typed
print_node-returns-in-Typed g t c =
    let h = g.L.Leads.led c.args.leads.now in
    let keyword = prints_as (ap (λ b. upper b.now) c.spelling-in-Typed.ensures) c.print_upper-in-Typed.ensures in
    prints_as (ap (λ n. plain_tree (led_tree h (node_value n))) (sym c.in-Typed.is)) (then_print (then_print (then_print keyword
    c.print_byte-in-Typed.ensures) c.print_param.ensures) c.print_byte-in-Typed-2.ensures)

pub print_node-returns-in-List : goal.print_node-returns-in-List
print_node-returns-in-List g t c =
    let h = g.L.Leads.led c.args.leads.now in
    prints_as (ap (λ n. plain_tree (led_tree h (node_value n))) (sym c.in-List.is)) (then_print (then_print
    c.print_byte-in-List.ensures c.print_params.ensures) c.print_byte-in-List-2.ensures)

pub print_params-returns-in-Some : goal.print_params-returns-in-Some
print_params-returns-in-Some g t c =
    let h = g.L.Leads.led c.args.leads.now in
    prints_as (literals_led h c.args.params.now c.in-Some.spelling.now c.in-Some.ensures.says c.in-Some.ensures.which)
    c.print.ensures

pub print_params-print_each-requires : goal.print_params-print_each-requires
print_params-print_each-requires g t c κs within = let less = c.decreases in (omega (arith, less), within)

pub print_each-returns-in_default : goal.print_each-returns-in_default
print_each-returns-in_default g t c =
    prints_as (no_led (g.L.Leads.led c.args.leads.now) c.args.params.now (sym c.item.ensures ∙ c.in_default.is))
    (prints_nothing g.S.Sink.held g.S.Sink.has_failed c.args.out.now c.args.printer.now)

pub print_each-print_param-requires : goal.print_each-print_param-requires
print_each-print_param-requires g t c κs within =
    let less = lighter c.args.params.now 0 c.in-Some.first (sym c.item.ensures ∙ c.in-Some.is) in
    (omega (arith, less, c.decreases), within)

pub print_each-print_param-requires-in-loop-i : goal.print_each-print_param-requires-in-loop-i
print_each-print_param-requires-in-loop-i g t c κs within =
    let less = lighter_behind c.args.params.now c.split-further.result.1 c.loop-i.i c.at.result
    c.split-further.ensures.back c.at.ensures in
    (omega (arith, less, c.decreases), within)

pub print_each-loop-i-preserved : goal.print_each-loop-i-preserved
print_each-loop-i-preserved g t c =
    let h = g.L.Leads.led c.args.leads.now in
    let last = c.print_param-in-loop-i.new in
    let next : Prints g.S.Sink.held g.S.Sink.has_failed c.loop-i.out last.out c.loop-i.printer last.printer
    (44 ∷ plain_tree (led_tree h c.at.result)) = search (rules, printing) in
    prints_at (λ xs. plain_more (led_trees h (all_of xs))) (λ x. 44 ∷ plain_tree (led_tree h x)) (led_more_push h)
    c.split-further.result.1 c.loop-i.i c.at.result c.at.ensures c.loop-i.invariant next

pub print_each-returns : goal.print_each-returns
print_each-returns g t c =
    let h = g.L.Leads.led c.args.leads.now in
    let further = c.split-further.result.1 in
    let over : length further ≤ c.loop-i.i = omega (arith, c.loop-i-test.false, c.len-i-end.ensures) in
    let all : take c.loop-i.i further ≡ further = take_all c.loop-i.i further over in
    let behind = prints_as (ap (λ xs. plain_more (led_trees h (all_of xs))) all) c.loop-i.invariant in
    prints_as (led_first h c.args.params.now further c.in-Some.first (sym c.item.ensures ∙ c.in-Some.is)
    c.split-further.ensures.back) (then_print c.print_param.ensures behind)
