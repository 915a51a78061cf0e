use Rattle.std.proofs.Common.{◌∙◌, sym}
use Rattle.population_pins.proofs.Bagged.{next, ends, ends-early}
use Rattle.population_pins.proofs.rows.pin_bags.Goals as goal

pub returns-in_default : goal.returns-in_default
returns-in_default c s =
    ends-early c.args.in_sets s c.args.slots.now c.args.values.now c.args.pinned.now c.loop-i.i c.loop-i.pinned
    (sym c.item.ensures ∙ c.in_default.is) (c.loop-i.invariant s)

pub loop-i-preserved : goal.loop-i-preserved
loop-i-preserved c s =
    next c.args.in_sets s c.args.slots.now c.args.values.now c.args.pinned.now c.loop-i.i c.in-Some.value c.loop-i.pinned
    c.pin_in_bags.new.pinned c.loop-i-test.true (sym c.item.ensures ∙ c.in-Some.is) (c.loop-i.invariant s)
    c.in_ok-pin_in_bags.ensures

pub returns : goal.returns
returns c s =
    ends c.args.in_sets s c.args.slots.now c.args.values.now c.args.pinned.now c.loop-i.i c.loop-i.pinned c.loop-i-test.false
    (c.loop-i.invariant s)
