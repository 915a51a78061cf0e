use Rattle.std.proofs.Common.{◌∙◌, sym}
use Rattle.graphs.specs.Graphs.{graph_of}
use Rattle.express_syntax.specs.ExpressionViews.{capitals}
use Rattle.schema_names.specs.Schemas.{the_schema}
use Rattle.schema_faults.proofs.Deciding.{inverted-met, inverted-unmet}
use Rattle.schema_faults.proofs.inverses.check_inverted.Goals as goal

pub returns-then-is_inverted : goal.returns-then-is_inverted
returns-then-is_inverted c =
    inverted-met (the_schema c.args.names.now) (graph_of c.args.above.now) c.requires
    (capitals c.args.entity) (capitals c.args.name) (sym c.is_inverted.ensures ∙ c.if-is_inverted.true)

pub returns-else-is_inverted : goal.returns-else-is_inverted
returns-else-is_inverted c =
    inverted-unmet (the_schema c.args.names.now) (graph_of c.args.above.now) c.requires
    (capitals c.args.entity) (capitals c.args.name) (sym c.is_inverted.ensures ∙ c.if-is_inverted.false)
