use Rattle.std.proofs.Common.{◌<◌, ◌∙◌, ap, arith, flat_map, length, subst}
use Rattle.std.proofs.lemmas.List.{take_all}
use Rattle.std.proofs.lemmas.Result.{err_from_is_err_and}
use Rattle.express_syntax.specs.ExpressionViews.{capitals}
use Rattle.express_syntax.specs.Profile.{Every}
use Rattle.express_syntax.specs.Views.{derived_of, names_of}
use Rattle.schema_semantics.specs.Faults.{IsMet, demands_of_derived}
use Rattle.schema_names.specs.Schemas.{the_schema}
use Rattle.schema_faults.specs.steps.Checks.{IsFirstUnmet}
use Rattle.schema_faults.proofs.Unmet.{met-more, unmet-more, mapped-each}
use Rattle.schema_faults.proofs.entities.check_deriveds.Goals as goal

pub loop-derived-preserved : goal.loop-derived-preserved
loop-derived-preserved c =
    let s = the_schema c.args.names.now in
    let xs = c.args.deriveds.now in
    let f = demands_of_derived (names_of c.args.supertypes.now) in
    let i = c.loop-derived.derived-index in
    let lt : i < length xs = omega (arith, c.loop-derived-test.true) in
    met-more s (λ x. f (derived_of x)) xs i c.derived-item.result lt c.derived-item.is c.loop-derived.invariant
    c.in_ok-check_derived.ensures

pub returns-in_err-check_derived : goal.returns-in_err-check_derived
returns-in_err-check_derived c =
    let s = the_schema c.args.names.now in
    let xs = c.args.deriveds.now in
    let f = demands_of_derived (names_of c.args.supertypes.now) in
    let i = c.loop-derived.derived-index in
    let lt : i < length xs = omega (arith, c.loop-derived-test.true) in
    let n = capitals c.in_err-check_derived.field-0.0 in
    let p = err_from_is_err_and c.from_residual.result c.from_residual.ensures.1 in
    let unmet =
    unmet-more s (λ x. f (derived_of x)) xs i c.derived-item.result n lt c.derived-item.is c.loop-derived.invariant
    c.in_err-check_derived.ensures in
    rw (p.1, p.2) (subst (λ ds. IsFirstUnmet s ds n) (mapped-each f derived_of xs) unmet)

pub returns : goal.returns
returns c =
    let s = the_schema c.args.names.now in
    let xs = c.args.deriveds.now in
    let f = demands_of_derived (names_of c.args.supertypes.now) in
    let i = c.loop-derived.derived-index in
    subst (Every (IsMet s))
    (ap (flat_map (λ x. f (derived_of x))) (take_all i xs c.loop-derived-test.false)
    ∙ mapped-each f derived_of xs) c.loop-derived.invariant
