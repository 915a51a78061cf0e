use Rattle.std.proofs.Common.{refl, length}
use Rattle.std.proofs.lemmas.Option.{slice_get_read}
use Rattle.schema_names.specs.Schemas.{the_schema}
use Rattle.population_pins.specs.steps.Slots.{IsRowOf}
use Rattle.population_pins.proofs.Adding.{zip-more}
use Rattle.population_pins.proofs.slots.slots_by_form.Goals as goal

pub loop-i-preserved : goal.loop-i-preserved
loop-i-preserved c =
    let xs = c.args.forms.now in
    let x = c.index-forms-i.result in
    zip-more (IsRowOf (the_schema c.args.bases.now.names.now) c.args.uses.now) xs c.loop-i.i x c.loop-i.rows.items
    c.push.new.self.items c.in_ok-row.row
    (slice_get_read xs (length xs) c.loop-i.i x refl c.loop-i-test.true c.index-forms-i.is)
    c.loop-i.invariant c.in_ok-row.ensures c.in_ok-push.ensures.items
