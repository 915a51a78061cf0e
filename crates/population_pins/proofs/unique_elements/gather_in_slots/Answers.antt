use Rattle.std.proofs.Common.{map, arith}
use Rattle.std.proofs.lemmas.List.{length-map}
use Rattle.std.proofs.lemmas.Option.{slice_get-get_or}
use Rattle.schema_names.specs.Schemas.{the_schema}
use Rattle.population_pins.specs.steps.Elements.{Asks}
use Rattle.population_pins.specs.steps.Slots.{slot_seen, HasUniqueAt}
use Rattle.schema_names.proofs.Items.{mapped-at}
use Rattle.population_pins.proofs.Listed.{next, ends}
use Rattle.population_pins.proofs.unique_elements.gather_in_slots.Goals as goal

pub loop-i-preserved : goal.loop-i-preserved
loop-i-preserved c d is =
    let s = the_schema c.args.bases.now.names.now in
    let xs = c.args.slots.now in
    let i = c.loop-i.i in
    next (λ q. HasUniqueAt s d (Asks q) c.args.values.now) (map (slot_seen s) xs) i c.args.weak.now _ c.loop-i.weak
    c.gather_at.new.weak
    (mapped-at (slot_seen s) xs i _ (slice_get-get_or xs i _ c.loop-i-test.true)) (c.loop-i.invariant d is)
    (c.in_ok-gather_at.ensures d is)

pub returns : goal.returns
returns c d is =
    let s = the_schema c.args.bases.now.names.now in
    let xs = c.args.slots.now in
    let past = c.loop-i-test.false in
    let long = length-map xs (slot_seen s) in
    ends (λ q. HasUniqueAt s d (Asks q) c.args.values.now) (map (slot_seen s) xs) c.loop-i.i c.args.weak.now
    c.loop-i.weak
    (omega (arith, past, long)) (c.loop-i.invariant d is)
