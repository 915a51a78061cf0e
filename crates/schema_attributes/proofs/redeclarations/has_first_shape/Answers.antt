use Rattle.express_syntax.specs.ExpressionViews.{capitals}
use Rattle.schema_names.specs.Schemas.{the_schema}
use Rattle.schema_attributes.proofs.FirstShapes.{no-first-shape, first-shape-told}
use Rattle.schema_attributes.proofs.redeclarations.has_first_shape.Goals as goal

pub returns-in-Some : goal.returns-in-Some
returns-in-Some c p k ent i at known =
    first-shape-told c.data_types_are_known.ensures (the_schema c.args.names.now) c.requires.resolved p (capitals c.args.attribute) k
    c.args.shapes.now c.requires.shapes c.args.data_type at known c.in-Some.first c.are_within_alike.result
    c.are_within_alike.ensures (c.in-Some.ensures p ent i)

pub returns-in-None : goal.returns-in-None
returns-in-None c p k ent i at known =
    no-first-shape c.data_types_are_known.ensures (the_schema c.args.names.now) c.requires.resolved p (capitals c.args.attribute) k
    (c.in-None.ensures p ent i)
