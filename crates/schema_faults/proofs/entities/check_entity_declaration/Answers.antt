use Rattle.std.proofs.lemmas.Result.{err_from_is_err_and}
use Rattle.express_syntax.specs.ExpressionViews.{capitals}
use Rattle.express_syntax.specs.Views.{entity_of}
use Rattle.schema_names.specs.Schemas.{the_schema}
use Rattle.schema_faults.proofs.ByClause.{unmet-supertype, unmet-subtypes, unmet-explicits, unmet-derived, all-checked}
use Rattle.schema_faults.proofs.entities.check_entity_declaration.Goals as goal

pub returns-in_err-check_supertype : goal.returns-in_err-check_supertype
returns-in_err-check_supertype c =
    let p = err_from_is_err_and c.from_residual.result c.from_residual.ensures.1 in
    rw (p.1, p.2) (unmet-supertype (the_schema c.args.names.now) (entity_of c.args.entity.now)
    (capitals c.in_err-check_supertype.field-0.0) c.in_err-check_supertype.ensures)

pub returns-in_err-check_subtype_clause : goal.returns-in_err-check_subtype_clause
returns-in_err-check_subtype_clause c =
    let left = c.from_residual-in_err-check_subtype_clause in
    let p = err_from_is_err_and left.result left.ensures.1 in
    rw (p.1, p.2) (unmet-subtypes (the_schema c.args.names.now) (entity_of c.args.entity.now)
    (capitals c.in_err-check_subtype_clause.field-0.0) c.in_ok-check_supertype.ensures
    c.in_err-check_subtype_clause.ensures)

pub returns-in_err-check_explicit_clauses : goal.returns-in_err-check_explicit_clauses
returns-in_err-check_explicit_clauses c =
    let left = c.from_residual-in_err-check_explicit_clauses in
    let p = err_from_is_err_and left.result left.ensures.1 in
    rw (p.1, p.2) (unmet-explicits (the_schema c.args.names.now) (entity_of c.args.entity.now)
    (capitals c.in_err-check_explicit_clauses.field-0.0) c.in_ok-check_supertype.ensures
    c.in_ok-check_subtype_clause.ensures c.in_err-check_explicit_clauses.ensures)

pub returns-in_err-check_derive_clause : goal.returns-in_err-check_derive_clause
returns-in_err-check_derive_clause c =
    let left = c.from_residual-in_err-check_derive_clause in
    let p = err_from_is_err_and left.result left.ensures.1 in
    rw (p.1, p.2) (unmet-derived (the_schema c.args.names.now) (entity_of c.args.entity.now)
    (capitals c.in_err-check_derive_clause.field-0.0) c.in_ok-check_supertype.ensures
    c.in_ok-check_subtype_clause.ensures c.in_ok-check_explicit_clauses.ensures c.in_err-check_derive_clause.ensures)

pub returns : goal.returns
returns c =
    all-checked (the_schema c.args.names.now) (entity_of c.args.entity.now) c.check_inverse_clause.result
    c.in_ok-check_supertype.ensures c.in_ok-check_subtype_clause.ensures c.in_ok-check_explicit_clauses.ensures
    c.in_ok-check_derive_clause.ensures c.check_inverse_clause.ensures
