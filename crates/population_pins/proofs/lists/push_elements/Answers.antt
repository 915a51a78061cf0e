use Rattle.std.proofs.Common.{arith}
use Rattle.population_pins.proofs.Added.{added-none, added-next, added-all, added-longer}
use Rattle.population_pins.proofs.lists.push_elements.Goals as goal

pub loop-i-init : goal.loop-i-init
loop-i-init c = added-none c.args.values.now c.args.names.now.items

pub loop-i-preserved : goal.loop-i-preserved
loop-i-preserved c =
    added-next c.args.values.now c.loop-i.i c.at.result c.args.names.now.items c.loop-i.names.items
    c.push_element.new.names.items c.at.ensures c.loop-i.invariant c.in_ok-push_element.ensures

pub returns-clause-added : goal.returns-clause-added
returns-clause-added c =
    let past = c.loop-i-test.false in
    let end = c.len-i-end.ensures in
    added-all c.args.values.now c.loop-i.i c.args.names.now.items c.loop-i.names.items (omega (arith, past, end))
    c.loop-i.invariant

pub returns-clause-longer : goal.returns-clause-longer
returns-clause-longer c =
    added-longer c.args.values.now c.loop-i.i c.args.names.now.items c.loop-i.names.items c.loop-i.invariant
