use Rattle.std.proofs.Common.{flat_map, subst}
use Rattle.express_syntax.specs.Views.{inverse_of}
use Rattle.schema_names.specs.Schemas.{the_schema}
use Rattle.schema_faults.specs.steps.Checks.{Checks}
use Rattle.schema_faults.specs.steps.Clauses.{demands_of_own_inverse}
use Rattle.schema_names.proofs.Clauses.{clause-listed}
use Rattle.schema_faults.proofs.entities.check_inverse_clause.Goals as goal

pub returns : goal.returns
returns c =
    subst (λ is. Checks (the_schema c.args.names.now) (flat_map demands_of_own_inverse is)
    c.check_inverses.result)
    (clause-listed inverse_of c.args.entity.now.inverses c.inverse_attributes.result.now c.inverse_attributes.ensures)
    c.check_inverses.ensures
