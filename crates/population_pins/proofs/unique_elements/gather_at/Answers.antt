use Rattle.std.proofs.lemmas.Result.{on_ok_weaker}
use Rattle.schema_names.specs.Schemas.{the_schema}
use Rattle.schema_underlying_types.specs.BaseViews.{base_seen}
use Rattle.population_pins.specs.steps.Elements.{Asks}
use Rattle.population_pins.proofs.Asked.{at-value}
use Rattle.population_pins.proofs.unique_elements.gather_at.Goals as goal

pub returns-in-Some : goal.returns-in-Some
returns-in-Some c d is =
    let s = the_schema c.args.bases.now.names.now in
    on_ok_weaker c.gather_in_value.result
    (at-value s d Asks c.args.values.now c.args.slot.position (base_seen s c.args.slot.base)
    c.in-Some.value c.args.weak.now c.gather_in_value.new.weak c.in-Some.ensures)
    (c.gather_in_value.ensures d is)
