use Rattle.std.proofs.Common.{flat_map, map, subst}
use Rattle.express_syntax.specs.ExpressionViews.{capitals}
use Rattle.express_syntax.specs.Views.{explicit_of}
use Rattle.schema_semantics.specs.Faults.{demands_of_explicit}
use Rattle.schema_names.specs.Schemas.{the_schema}
use Rattle.schema_faults.specs.steps.Checks.{Checks}
use Rattle.schema_names.proofs.Clauses.{clause-listed}
use Rattle.schema_faults.proofs.entities.check_explicit_clauses.Goals as goal

pub returns : goal.returns
returns c =
    let s = the_schema c.args.names.now in
    let e = c.args.entity.now in
    let above = clause-listed capitals e.subtype_of c.supertypes.result.now c.supertypes.ensures in
    subst (λ ds. Checks s ds c.check_explicits.result)
    (λ i. flat_map (demands_of_explicit (above i)) (map explicit_of (c.deref.ensures.value i)))
    c.check_explicits.ensures
