use Rattle.std.proofs.Common.{arith, slice_index_or}
use Rattle.std.proofs.lemmas.Option.{slice_get-get_or}
use Rattle.population_pins.specs.steps.Classes.{class_of}
use Rattle.population_pins.proofs.Classmates.{gone-next, gone-all}
use Rattle.population_pins.proofs.classes.pin_classmates.Goals as goal

pub loop-name-preserved : goal.loop-name-preserved
loop-name-preserved c =
    let names = c.args.names.now in
    let k = c.loop-name.name-index in
    gone-next (class_of c.args.classes.now) names k (slice_index_or names k 0) c.loop-name.firsts _ _ c.loop-name.pinned
    _ (slice_get-get_or names k 0 c.loop-name-test.true) c.loop-name.invariant c.in_ok-pin_element.ensures

pub returns : goal.returns
returns c =
    let past = c.loop-name-test.false in
    gone-all (class_of c.args.classes.now) c.args.names.now c.loop-name.name-index c.loop-name.firsts _
    c.loop-name.pinned (omega (arith, past)) c.loop-name.invariant
