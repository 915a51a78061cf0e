use Rattle.std.proofs.Common.{refl, sym, ◌∙◌}
use Rattle.schema_names.specs.Schemas.{the_schema}
use Rattle.schema_underlying_types.specs.BaseViews.{type_at}
use Rattle.population_pins.proofs.Adding.{adds-one, adds-none}
use Rattle.population_pins.proofs.slots.add_slot.Goals as goal

pub returns-in_ok-push : goal.returns-in_ok-push
returns-in_ok-push c =
    let s = the_schema c.args.bases.now.names.now in
    adds-one s c.args.position (type_at s c.args.data_type)
    (record { position = c.args.position; base = c.of_number-base.result }) _ _ c.in_ok-push.ensures.items refl
    c.of_number-base.ensures.numbered (c.of_number-base.ensures.says c.requires.known)
    (λ d is. sym c.if-may_hold.true ∙ c.may_hold.ensures d is)

pub returns-else-may_hold : goal.returns-else-may_hold
returns-else-may_hold c =
    let s = the_schema c.args.bases.now.names.now in
    adds-none s c.args.position (type_at s c.args.data_type) c.of_number-base.result c.args.slots.now.items
    (c.of_number-base.ensures.says c.requires.known) (λ d is. sym c.if-may_hold.false ∙ c.may_hold.ensures d is)
