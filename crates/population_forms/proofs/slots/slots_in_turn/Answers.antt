use Rattle.std.proofs.Common.{◌<◌, length, arith}
use Rattle.population_forms.specs.steps.Slots.{IsSlotAt}
use Rattle.population_forms.proofs.Slotted.{zip-more}
use Rattle.population_forms.proofs.slots.slots_in_turn.Goals as goal

pub loop-place-preserved : goal.loop-place-preserved
loop-place-preserved c =
    let lt : c.loop-place.place-index < length c.args.places.now = omega (arith, c.loop-place-test.true) in
    zip-more (IsSlotAt c.args.uses.now c.args.types.now) c.args.places.now c.loop-place.place-index
    c.loop-place.found.items c.push.new.self.items c.in_ok-slot.slot lt c.loop-place.invariant c.in_ok-slot.ensures
    c.in_ok-push.ensures.items
