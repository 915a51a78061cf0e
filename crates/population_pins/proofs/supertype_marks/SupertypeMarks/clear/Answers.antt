use Rattle.std.proofs.Common.{◌≡◌, length, arith}
use Rattle.std.specs.Vec.{with_items}
use Rattle.std.proofs.lemmas.List.{with_items_is}
use Rattle.population_pins.specs.declared.supertype_marks.SupertypeMarks.{SupertypeMarks}
use Rattle.population_pins.proofs.Transitive.{listed-marks, listed-within, cleared}
use Rattle.population_pins.proofs.supertype_marks.SupertypeMarks.clear.Goals as goal

pub unmark-requires-clause-marked : goal.unmark-requires-clause-marked
unmark-requires-clause-marked c =
    listed-marks c.requires.0 c.deref_mut.result.now c.deref.result.now c.args.self.now c.requires.1
    c.deref_mut.ensures.value c.deref.ensures.value

pub unmark-requires-clause-within : goal.unmark-requires-clause-within
unmark-requires-clause-within c =
    listed-within c.requires.0 c.deref_mut.result.now c.deref.result.now c.args.self.now c.requires.1
    c.deref_mut.ensures.value c.deref.ensures.value

pub returns : goal.returns
returns c g marked =
    let old = c.args.self.now in
    let after = c.unmark.new.marks in
    let new : SupertypeMarks = record { numbers = c.clear.new.self; marks = with_items old.marks after } in
    let long : length after ≡ old.marks.len = omega (arith, c.unmark.auto.marks, c.deref_mut.ensures.len) in
    cleared g c.deref_mut.result.now after old new marked c.deref_mut.ensures.value (with_items_is old.marks after long)
    c.unmark.ensures.length c.unmark.ensures.clean c.clear.ensures.items
