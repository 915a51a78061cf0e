use Rattle.std.proofs.Common.{◌≡◌, ◌+◌, sym, subst, drop, arith}
use Rattle.population_uniqueness.specs.steps.Positions.{positions_of}
use Rattle.population_uniqueness.proofs.Behind.{behind}
use Rattle.population_uniqueness.proofs.Positioned.{position_more, position_missing, positions_all}
use Rattle.population_uniqueness.proofs.positions.positions_in_turn.Goals as goal

pub returns-in_default : goal.returns-in_default
returns-in_default c =
    position_missing c.args.slots.now c.args.places.now c.loop-place.place-index _ c.loop-place.found.items
    (omega (arith, c.loop-place-test.true)) c.in_default.ensures c.loop-place.invariant

pub loop-place-preserved : goal.loop-place-preserved
loop-place-preserved c =
    let xs = c.args.slots.now in
    let qs = c.args.places.now in
    subst (λ is. behind is (positions_of xs (drop (c.loop-place.place-index + 1) qs)) ≡ positions_of xs qs)
    (sym c.in_ok-push.ensures.items)
    (position_more xs qs c.loop-place.place-index _ c.loop-place.found.items c.in-Some.position
    (omega (arith, c.loop-place-test.true)) c.in-Some.ensures c.loop-place.invariant)

pub returns : goal.returns
returns c =
    positions_all c.args.slots.now c.args.places.now c.loop-place.place-index c.loop-place.found.items
    (omega (arith, c.loop-place-test.false)) c.loop-place.invariant
