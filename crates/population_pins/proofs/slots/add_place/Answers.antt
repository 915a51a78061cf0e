use Rattle.std.proofs.lemmas.Option.{slice_get-get_or}
use Rattle.schema_names.specs.Schemas.{the_schema}
use Rattle.population_pins.proofs.Adding.{known-of, more-types}
use Rattle.population_pins.proofs.slots.add_place.Goals as goal

pub add_uses-requires-clause-known : goal.add_uses-requires-clause-known
add_uses-requires-clause-known c =
    known-of (the_schema c.args.bases.now.names.now) c.args.uses.now _ c.uses_at.result.now c.uses_at.ensures
    c.requires.known

pub loop-i-preserved : goal.loop-i-preserved
loop-i-preserved c =
    more-types (the_schema c.args.bases.now.names.now) c.args.position c.args.place c.args.uses.now c.args.types.now
    c.loop-i.i _
    c.uses_at.result.now _ _ _ (slice_get-get_or c.args.types.now c.loop-i.i _ c.loop-i-test.true) c.uses_at.ensures
    c.loop-i.invariant c.in_ok-add_uses.ensures
