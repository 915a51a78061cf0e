use Rattle.schema_expression_types.proofs.Literals.{no-bytes}
use Rattle.schema_expression_types.proofs.type_strings.bytes_of.Goals as goal

pub returns-in_default : goal.returns-in_default
returns-in_default c cs h e =
    no-bytes c.args.items.now c.loop-item.item-index _ c.loop-item-test.true c.in_default.ensures cs h e
