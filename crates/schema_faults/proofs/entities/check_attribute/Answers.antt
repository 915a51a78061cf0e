use Rattle.std.proofs.Common.{◌∙◌, sym}
use Rattle.graphs.specs.Graphs.{graph_of}
use Rattle.express_syntax.specs.ExpressionViews.{capitals}
use Rattle.express_syntax.specs.Views.{names_of}
use Rattle.schema_names.specs.Schemas.{the_schema}
use Rattle.schema_faults.proofs.Deciding.{redeclared-met, redeclared-unmet}
use Rattle.schema_faults.proofs.entities.check_attribute.Goals as goal

pub returns-then-is_inherited : goal.returns-then-is_inherited
returns-then-is_inherited c =
    rw c.in-Redeclared.is (redeclared-met (the_schema c.args.names.now) (graph_of c.args.above.now) c.requires
    (names_of c.args.supertypes.now) (capitals c.in-Redeclared.entity) (capitals c.in-Redeclared.name)
    c.in_ok-check_entity.ensures.0 (sym c.is_inherited.ensures ∙ c.if-is_inherited.true))

pub returns-else-is_inherited : goal.returns-else-is_inherited
returns-else-is_inherited c =
    rw c.in-Redeclared.is (redeclared-unmet (the_schema c.args.names.now) (graph_of c.args.above.now)
    c.requires (names_of c.args.supertypes.now) (capitals c.in-Redeclared.entity) (capitals c.in-Redeclared.name)
    c.in_ok-check_entity.ensures.0 (sym c.is_inherited.ensures ∙ c.if-is_inherited.false))
