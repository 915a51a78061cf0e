use Rattle.std.proofs.Common.{sym, ◌∙◌}
use Rattle.std.proofs.lemmas.Result.{on_ok_weaker}
use Rattle.schema_underlying_types.specs.BaseViews.{base_seen}
use Rattle.population_pins.specs.steps.Elements.{Asks}
use Rattle.population_pins.proofs.WalkingElements.{if-unique, if-not-unique}
use Rattle.population_pins.proofs.unique_lists.gather_if_unique.Goals as goal

pub returns-then-not-is_unique : goal.returns-then-not-is_unique
returns-then-not-is_unique c s =
    if-not-unique Asks c.args.weak.now (base_seen s c.args.base) c.args.values.now
    (sym (c.is_unique.ensures s) ∙ c.if-not-is_unique.true)

pub returns : goal.returns
returns c s =
    on_ok_weaker c.gather.result
    (if-unique Asks c.args.weak.now c.gather.new.weak (base_seen s c.args.base) c.args.values.now
    (sym (c.is_unique.ensures s) ∙ c.if-not-is_unique.false)) c.gather.ensures
