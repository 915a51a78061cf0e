use Rattle.std.proofs.Common.{◌<◌, ◌∙◌, ap, arith, flat_map, length, subst}
use Rattle.std.proofs.lemmas.List.{take_all}
use Rattle.std.proofs.lemmas.Result.{err_from_is_err_and}
use Rattle.express_syntax.specs.ExpressionViews.{capitals}
use Rattle.express_syntax.specs.Profile.{Every}
use Rattle.express_syntax.specs.Views.{explicit_of, names_of}
use Rattle.schema_semantics.specs.Faults.{IsMet, demands_of_explicit}
use Rattle.schema_names.specs.Schemas.{the_schema}
use Rattle.schema_faults.specs.steps.Checks.{IsFirstUnmet}
use Rattle.schema_faults.proofs.Unmet.{met-more, unmet-more, mapped-each}
use Rattle.schema_faults.proofs.entities.check_explicits.Goals as goal

pub loop-explicit-preserved : goal.loop-explicit-preserved
loop-explicit-preserved c =
    let s = the_schema c.args.names.now in
    let xs = c.args.explicits.now in
    let f = demands_of_explicit (names_of c.args.supertypes.now) in
    let i = c.loop-explicit.explicit-index in
    let lt : i < length xs = omega (arith, c.loop-explicit-test.true) in
    met-more s (λ x. f (explicit_of x)) xs i c.explicit-item.result lt c.explicit-item.is c.loop-explicit.invariant
    c.in_ok-check_explicit.ensures

pub returns-in_err-check_explicit : goal.returns-in_err-check_explicit
returns-in_err-check_explicit c =
    let s = the_schema c.args.names.now in
    let xs = c.args.explicits.now in
    let f = demands_of_explicit (names_of c.args.supertypes.now) in
    let i = c.loop-explicit.explicit-index in
    let lt : i < length xs = omega (arith, c.loop-explicit-test.true) in
    let n = capitals c.in_err-check_explicit.field-0.0 in
    let p = err_from_is_err_and c.from_residual.result c.from_residual.ensures.1 in
    let unmet =
    unmet-more s (λ x. f (explicit_of x)) xs i c.explicit-item.result n lt c.explicit-item.is c.loop-explicit.invariant
    c.in_err-check_explicit.ensures in
    rw (p.1, p.2) (subst (λ ds. IsFirstUnmet s ds n) (mapped-each f explicit_of xs) unmet)

pub returns : goal.returns
returns c =
    let s = the_schema c.args.names.now in
    let xs = c.args.explicits.now in
    let f = demands_of_explicit (names_of c.args.supertypes.now) in
    let i = c.loop-explicit.explicit-index in
    subst (Every (IsMet s))
    (ap (flat_map (λ x. f (explicit_of x))) (take_all i xs c.loop-explicit-test.false)
    ∙ mapped-each f explicit_of xs) c.loop-explicit.invariant
