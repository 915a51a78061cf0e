use Rattle.std.proofs.Common.{◌<◌, ◌∙◌, ap, arith, flat_map, length, subst}
use Rattle.std.proofs.lemmas.List.{take_all}
use Rattle.std.proofs.lemmas.Result.{err_from_is_err_and}
use Rattle.express_syntax.specs.ExpressionViews.{capitals}
use Rattle.express_syntax.specs.Profile.{Every}
use Rattle.express_syntax.specs.Views.{inverse_of}
use Rattle.schema_semantics.specs.Faults.{IsMet}
use Rattle.schema_names.specs.Schemas.{the_schema}
use Rattle.schema_faults.specs.steps.Clauses.{demands_of_own_inverse}
use Rattle.schema_faults.specs.steps.Checks.{IsFirstUnmet}
use Rattle.schema_faults.proofs.Unmet.{met-more, unmet-more, mapped-each}
use Rattle.schema_faults.proofs.inverses.check_inverses.Goals as goal

pub loop-inverse-preserved : goal.loop-inverse-preserved
loop-inverse-preserved c =
    let s = the_schema c.args.names.now in
    let xs = c.args.inverses.now in
    let f = demands_of_own_inverse in
    let i = c.loop-inverse.inverse-index in
    let lt : i < length xs = omega (arith, c.loop-inverse-test.true) in
    met-more s (λ x. f (inverse_of x)) xs i c.inverse-item.result lt c.inverse-item.is c.loop-inverse.invariant
    c.in_ok-check_inverse.ensures

pub returns-in_err-check_inverse : goal.returns-in_err-check_inverse
returns-in_err-check_inverse c =
    let s = the_schema c.args.names.now in
    let xs = c.args.inverses.now in
    let f = demands_of_own_inverse in
    let i = c.loop-inverse.inverse-index in
    let lt : i < length xs = omega (arith, c.loop-inverse-test.true) in
    let n = capitals c.in_err-check_inverse.field-0.0 in
    let p = err_from_is_err_and c.from_residual.result c.from_residual.ensures.1 in
    let unmet =
    unmet-more s (λ x. f (inverse_of x)) xs i c.inverse-item.result n lt c.inverse-item.is c.loop-inverse.invariant
    c.in_err-check_inverse.ensures in
    rw (p.1, p.2) (subst (λ ds. IsFirstUnmet s ds n) (mapped-each f inverse_of xs) unmet)

pub returns : goal.returns
returns c =
    let s = the_schema c.args.names.now in
    let xs = c.args.inverses.now in
    let f = demands_of_own_inverse in
    let i = c.loop-inverse.inverse-index in
    subst (Every (IsMet s))
    (ap (flat_map (λ x. f (inverse_of x))) (take_all i xs c.loop-inverse-test.false)
    ∙ mapped-each f inverse_of xs) c.loop-inverse.invariant
