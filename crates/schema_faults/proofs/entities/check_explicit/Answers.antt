use Rattle.std.proofs.Common.{flat_map, subst}
use Rattle.std.proofs.lemmas.Result.{err_from_is_err_and}
use Rattle.express_syntax.specs.ExpressionViews.{capitals}
use Rattle.express_syntax.specs.Profile.{Every}
use Rattle.express_syntax.specs.Views.{attributes_of, data_type_of, names_of}
use Rattle.schema_semantics.specs.Faults.{IsMet, demands_of_attribute, demands_of_data_type}
use Rattle.schema_names.specs.Schemas.{the_schema}
use Rattle.schema_faults.specs.steps.Checks.{IsFirstUnmet}
use Rattle.schema_faults.proofs.Unmet.{checks-on, unmet-left}
use Rattle.schema_faults.proofs.entities.check_explicit.Goals as goal

pub returns-in_err-check_attributes : goal.returns-in_err-check_attributes
returns-in_err-check_attributes c =
    let s = the_schema c.args.names.now in
    let f = demands_of_attribute (names_of c.args.supertypes.now) in
    let n = capitals c.in_err-check_attributes.field-0.0 in
    let p = err_from_is_err_and c.from_residual.result c.from_residual.ensures.1 in
    rw (p.1, p.2) (unmet-left s (flat_map f (attributes_of c.args.explicit.now.attributes))
    (demands_of_data_type (data_type_of c.args.explicit.now.data_type)) n
    (subst (λ xs. IsFirstUnmet s (flat_map f xs) n) c.as_slice.ensures
    c.in_err-check_attributes.ensures))

pub returns : goal.returns
returns c =
    let s = the_schema c.args.names.now in
    let f = demands_of_attribute (names_of c.args.supertypes.now) in
    checks-on s (flat_map f (attributes_of c.args.explicit.now.attributes))
    (demands_of_data_type (data_type_of c.args.explicit.now.data_type)) c.check_data_type.result
    (subst (λ xs. Every (IsMet s) (flat_map f xs)) c.as_slice.ensures
    c.in_ok-check_attributes.ensures) c.check_data_type.ensures
