use Rattle.std.proofs.Common.{map, subst}
use Rattle.express_syntax.specs.ExpressionViews.{capitals}
use Rattle.schema_semantics.specs.Faults.{an_entity}
use Rattle.schema_names.specs.Schemas.{the_schema}
use Rattle.schema_faults.specs.steps.Checks.{Checks}
use Rattle.schema_names.proofs.Clauses.{clause-listed}
use Rattle.schema_faults.proofs.entities.check_subtype_clause.Goals as goal

pub returns : goal.returns
returns c =
    subst (λ ns. Checks (the_schema c.args.names.now) (map an_entity ns) c.check_entities.result)
    (clause-listed capitals c.args.entity.now.subtype_of c.supertypes.result.now c.supertypes.ensures)
    c.check_entities.ensures
