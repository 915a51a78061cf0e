use Rattle.std.proofs.Common.{arith}
use Rattle.population_pins.specs.steps.Classes.{class_of, members_of, HasClassmate}
use Rattle.population_pins.proofs.Listing.{next, ends}
use Rattle.population_pins.proofs.weak_pins.pin_in_lists.Goals as goal

pub loop-index-preserved : goal.loop-index-preserved
loop-index-preserved c =
    next (λ y ns. HasClassmate (members_of (class_of c.args.classes.now) ns) y) c.args.lists.now c.loop-index.index
    c.args.pinned.now c.list.result.now c.loop-index.pinned c.pin_classmates.new.pinned c.list.ensures
    c.loop-index.invariant c.in_ok-pin_classmates.ensures

pub returns : goal.returns
returns c =
    let past = c.loop-index-test.false in
    let end = c.len-index-end.ensures in
    ends (λ y ns. HasClassmate (members_of (class_of c.args.classes.now) ns) y) c.args.lists.now c.loop-index.index
    c.args.pinned.now c.loop-index.pinned (omega (arith, past, end)) c.loop-index.invariant
