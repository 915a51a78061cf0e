use Rattle.std.proofs.Common.{◌∙◌, ◌<◌, length, filter_map, slice_get, ap, arith}
use Rattle.std.proofs.lemmas.List.{take_all}
use Rattle.population_forms.proofs.Placed.{found-more}
use Rattle.population_forms.proofs.slots.uses_of.Goals as goal

pub loop-number-preserved : goal.loop-number-preserved
loop-number-preserved c =
    let lt : c.loop-number.number-index < length c.args.numbers.now = omega (arith, c.loop-number-test.true) in
    found-more (slice_get c.args.uses.now) c.args.numbers.now c.loop-number.number-index _ c.loop-number.found.items
    c.add_use.new.found.items lt c.loop-number.invariant c.in_ok-add_use.ensures

pub returns : goal.returns
returns c =
    c.loop-number.invariant
    ∙ ap (filter_map (slice_get c.args.uses.now))
    (take_all c.loop-number.number-index c.args.numbers.now c.loop-number-test.false)
