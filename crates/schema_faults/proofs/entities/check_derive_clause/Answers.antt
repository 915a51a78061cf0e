use Rattle.std.proofs.Common.{flat_map, subst}
use Rattle.express_syntax.specs.ExpressionViews.{capitals}
use Rattle.express_syntax.specs.Views.{derived_of}
use Rattle.schema_semantics.specs.Faults.{demands_of_derived}
use Rattle.schema_names.specs.Schemas.{the_schema}
use Rattle.schema_faults.specs.steps.Checks.{Checks}
use Rattle.schema_names.proofs.Clauses.{clause-listed}
use Rattle.schema_faults.proofs.entities.check_derive_clause.Goals as goal

pub returns : goal.returns
returns c =
    let s = the_schema c.args.names.now in
    let e = c.args.entity.now in
    let above = clause-listed capitals e.subtype_of c.supertypes.result.now c.supertypes.ensures in
    let derived = clause-listed derived_of e.derived c.derived_attributes.result.now c.derived_attributes.ensures in
    subst (λ ds. Checks s ds c.check_deriveds.result) (λ i. flat_map (demands_of_derived (above i)) (derived i))
    c.check_deriveds.ensures
