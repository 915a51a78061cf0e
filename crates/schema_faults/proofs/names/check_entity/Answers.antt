use Rattle.express_syntax.specs.ExpressionViews.{capitals}
use Rattle.schema_names.specs.Schemas.{the_schema}
use Rattle.schema_faults.proofs.Asking.{entity-unmet}
use Rattle.schema_faults.proofs.names.check_entity.Goals as goal

pub returns-else-is_entity : goal.returns-else-is_entity
returns-else-is_entity c =
    entity-unmet (the_schema c.args.names.now) (capitals c.args.word) c.if-is_entity.ensures
