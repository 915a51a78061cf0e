use Rattle.std.proofs.Common.{arith}
use Rattle.conformance.specs.Elements.{AnElement, StandsWithin}
use Rattle.population_pins.proofs.Walking.{next, ends}
use Rattle.population_pins.proofs.elements.pin_inside.Goals as goal

pub loop-i-preserved : goal.loop-i-preserved
loop-i-preserved c =
    next StandsWithin (λ y. AnElement (StandsWithin y)) (λ y h. h) (λ y v vs. ((λ h. h), (λ h. h))) c.args.values.now
    c.loop-i.i c.args.pinned.now c.at.result c.loop-i.pinned c.pin_within.new.pinned c.at.ensures c.loop-i.invariant
    c.in_ok-pin_within.ensures

pub returns : goal.returns
returns c =
    let past = c.loop-i-test.false in
    let end = c.len-i-end.ensures in
    ends StandsWithin (λ y. AnElement (StandsWithin y)) (λ y h. h) (λ y v vs. ((λ h. h), (λ h. h))) c.args.values.now
    c.loop-i.i c.args.pinned.now c.loop-i.pinned (omega (arith, past, end)) c.loop-i.invariant
