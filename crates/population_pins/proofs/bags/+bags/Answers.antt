use Rattle.std.proofs.Common.{◌≡◌, ◌∙◌, sym, arith}
use Rattle.conformance.specs.CollectionMembers.{InBag, InBagOf}
use Rattle.step_values.proofs.Weights.{weight_of, lighter}
use Rattle.population_pins.proofs.Bagged.{none-bagged}
use Rattle.population_pins.proofs.Pinning.{pins-nothing}
use Rattle.population_pins.proofs.Walking.{next, ends}
use Rattle.population_pins.proofs.bags.+bags.Goals as goal

pub pin_in_bags-returns-then-not-has_parts : goal.pin_in_bags-returns-then-not-has_parts
pin_in_bags-returns-then-not-has_parts t c =
    pins-nothing (λ y. InBag c.args.in_sets y c.args.value.now) c.args.pinned.now
    (λ y. none-bagged c.args.in_sets y c.args.value.now (sym c.has_parts.ensures ∙ c.if-not-has_parts.true))

pub pin_in_bags_of_each-pin_in_bags-requires : goal.pin_in_bags_of_each-pin_in_bags-requires
pin_in_bags_of_each-pin_in_bags-requires t c =
    let less = lighter c.args.values.now c.loop-i.i c.at.result c.at.ensures in
    let all : weight_of c.args.values.now ≡ t = c.decreases in
    omega (arith, less, all)

pub pin_in_bags_of_each-loop-i-preserved : goal.pin_in_bags_of_each-loop-i-preserved
pin_in_bags_of_each-loop-i-preserved t c =
    next (InBag c.args.in_sets) (InBagOf c.args.in_sets) (λ y h. h) (λ y v vs. ((λ h. h), (λ h. h))) c.args.values.now c.loop-i.i
    c.args.pinned.now c.at.result c.loop-i.pinned c.pin_in_bags.new.pinned c.at.ensures c.loop-i.invariant
    c.in_ok-pin_in_bags.ensures

pub pin_in_bags_of_each-returns : goal.pin_in_bags_of_each-returns
pin_in_bags_of_each-returns t c =
    let past = c.loop-i-test.false in
    let end = c.len-i-end.ensures in
    ends (InBag c.args.in_sets) (InBagOf c.args.in_sets) (λ y h. h) (λ y v vs. ((λ h. h), (λ h. h))) c.args.values.now c.loop-i.i
    c.args.pinned.now c.loop-i.pinned (omega (arith, past, end)) c.loop-i.invariant
