use Rattle.std.proofs.Common.{◌+◌, get_or, drop}
use Rattle.std.proofs.lemmas.Option.{slice_get-get_or}
use Rattle.step_values.specs.steps.Slots.{nth}
use Rattle.step_values.proofs.Walks.{after}
use Rattle.rule_plans.specs.steps.Coded.{coded_place, coded_slots}
use Rattle.rule_plans.proofs.Adding.{starts, next, ends}
use Rattle.rule_plans.proofs.Walking.{slot-next, slots-end}
use Rattle.rule_plans.proofs.values.add_slots.Goals as goal

pub loop-i-init : goal.loop-i-init
loop-i-init c =
    starts (coded_slots c.args.seeker.now c.args.asked.now c.args.slots.now c.args.values.now) c.args.found.now

pub add_slot-requires : goal.add_slot-requires
add_slot-requires c =
    let ys = c.args.slots.now in
    let i = c.loop-i.i in
    c.requires i (get_or ys i c.index-slots-i.result)
    (slice_get-get_or ys i c.index-slots-i.result c.loop-i-test.true)

pub loop-i-preserved : goal.loop-i-preserved
loop-i-preserved c =
    let x = c.args.seeker.now in
    let k = c.args.asked.now in
    let ys = c.args.slots.now in
    let vs = c.args.values.now in
    let i = c.loop-i.i in
    let y = get_or ys i c.index-slots-i.result in
    next (coded_slots x k ys vs) (coded_slots x k (drop i ys) (after i vs)) (coded_place x k y.place (nth vs i))
    (coded_slots x k (drop (i + 1) ys) (after (i + 1) vs)) c.args.found.now c.loop-i.found c.add_slot.new.found
    (slot-next x k ys vs i y (slice_get-get_or ys i c.index-slots-i.result c.loop-i-test.true)) c.loop-i.invariant
    c.in_ok-add_slot.ensures

pub returns : goal.returns
returns c =
    let x = c.args.seeker.now in
    let k = c.args.asked.now in
    let ys = c.args.slots.now in
    let vs = c.args.values.now in
    let i = c.loop-i.i in
    ends (coded_slots x k ys vs) (coded_slots x k (drop i ys) (after i vs)) c.args.found.now c.loop-i.found
    (slots-end x k ys vs i c.loop-i-test.false) c.loop-i.invariant
