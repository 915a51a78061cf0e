use Rattle.std.proofs.Common.{◌≡◌, arith}
use Rattle.conformance.specs.SeparatingMaps.{Occurs, OccursIn}
use Rattle.step_values.proofs.Weights.{weight_of, lighter}
use Rattle.population_pins.proofs.Walking.{next, ends}
use Rattle.population_pins.proofs.targets.+targets.Goals as goal

pub pin_each_target-pin_targets-requires : goal.pin_each_target-pin_targets-requires
pin_each_target-pin_targets-requires t c =
    let less = lighter c.args.values.now c.loop-i.i c.at.result c.at.ensures in
    let all : weight_of c.args.values.now ≡ t = c.decreases in
    omega (arith, less, all)

pub pin_each_target-loop-i-preserved : goal.pin_each_target-loop-i-preserved
pin_each_target-loop-i-preserved t c =
    next Occurs OccursIn (λ y h. h) (λ y v vs. ((λ h. h), (λ h. h))) c.args.values.now c.loop-i.i
    c.args.pinned.now c.at.result c.loop-i.pinned c.pin_targets.new.pinned c.at.ensures c.loop-i.invariant
    c.in_ok-pin_targets.ensures

pub pin_each_target-returns : goal.pin_each_target-returns
pin_each_target-returns t c =
    let past = c.loop-i-test.false in
    let end = c.len-i-end.ensures in
    ends Occurs OccursIn (λ y h. h) (λ y v vs. ((λ h. h), (λ h. h))) c.args.values.now c.loop-i.i
    c.args.pinned.now c.loop-i.pinned (omega (arith, past, end)) c.loop-i.invariant
