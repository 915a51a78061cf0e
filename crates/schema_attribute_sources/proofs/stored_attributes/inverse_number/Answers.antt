use Rattle.express_syntax.specs.ExpressionViews.{capitals}
use Rattle.schema_attribute_sources.specs.StoredAttributes.{is_inverse}
use Rattle.schema_attribute_sources.proofs.Positions.{is-tested}
use Rattle.schema_attribute_sources.proofs.stored_attributes.inverse_number.Goals as goal

pub returns-in-None : goal.returns-in-None
returns-in-None c =
    is-tested (is_inverse c.args.asked.entity (capitals c.args.asked.name)) c.args.inverses.now c.inverse_among.result
    c.inverse_among.ensures
