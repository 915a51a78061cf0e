use Rattle.schema_names.specs.Schemas.{the_schema}
use Rattle.shrinking.proofs.Refusing.{refuses}
use Rattle.shrinking.proofs.shrink.is_refused.Goals as goal

pub returns-then-choice : goal.returns-then-choice
returns-then-choice c =
    refuses (the_schema c.args.graph.now.types.names) c.args.choice.now.strict c.unchecked.result.now
    c.is_empty.result c.if-choice.true c.is_empty.ensures c.unchecked.ensures
