use Rattle.std.proofs.Common.{[], ◌∷◌}
use Rattle.express_syntax.specs.ExpressionViews.{capitals}
use Rattle.express_syntax.specs.Views.{inverse_of}
use Rattle.schema_semantics.specs.Faults.{an_entity}
use Rattle.schema_names.specs.Schemas.{the_schema}
use Rattle.schema_faults.specs.steps.Clauses.{demands_of_inverted}
use Rattle.schema_faults.proofs.Unmet.{checks-on}
use Rattle.schema_faults.proofs.inverses.check_inverse.Goals as goal

pub returns : goal.returns
returns c =
    rw c.in-Unqualified.is (checks-on (the_schema c.args.names.now)
    (an_entity (capitals c.args.inverse.now.entity) ∷ []) (demands_of_inverted (inverse_of c.args.inverse.now))
    c.check_holder.result c.in_ok-check_entity.ensures c.check_holder.ensures)
