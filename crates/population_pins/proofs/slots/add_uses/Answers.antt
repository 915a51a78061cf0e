use Rattle.std.proofs.lemmas.Option.{slice_get-get_or}
use Rattle.schema_names.specs.Schemas.{the_schema}
use Rattle.population_pins.proofs.Adding.{more-uses}
use Rattle.population_pins.proofs.slots.add_uses.Goals as goal

pub loop-i-preserved : goal.loop-i-preserved
loop-i-preserved c =
    more-uses (the_schema c.args.bases.now.names.now) c.args.position c.args.place c.args.uses.now c.loop-i.i _ _ _ _
    (slice_get-get_or c.args.uses.now c.loop-i.i _ c.loop-i-test.true) c.loop-i.invariant c.in_ok-add_use.ensures
