use Rattle.std.proofs.Common.{◌<◌, ◌∙◌, ap, arith, flat_map, length, subst}
use Rattle.std.proofs.lemmas.List.{take_all}
use Rattle.std.proofs.lemmas.Result.{err_from_is_err_and}
use Rattle.express_syntax.specs.ExpressionViews.{capitals}
use Rattle.express_syntax.specs.Profile.{Every}
use Rattle.express_syntax.specs.Views.{attribute_of, names_of}
use Rattle.schema_semantics.specs.Faults.{IsMet, demands_of_attribute}
use Rattle.schema_names.specs.Schemas.{the_schema}
use Rattle.schema_faults.specs.steps.Checks.{IsFirstUnmet}
use Rattle.schema_faults.proofs.Unmet.{met-more, unmet-more, mapped-each}
use Rattle.schema_faults.proofs.entities.check_attributes.Goals as goal

pub loop-attribute-preserved : goal.loop-attribute-preserved
loop-attribute-preserved c =
    let s = the_schema c.args.names.now in
    let xs = c.args.attributes.now in
    let f = demands_of_attribute (names_of c.args.supertypes.now) in
    let i = c.loop-attribute.attribute-index in
    let lt : i < length xs = omega (arith, c.loop-attribute-test.true) in
    met-more s (λ x. f (attribute_of x)) xs i c.attribute-item.result lt c.attribute-item.is c.loop-attribute.invariant
    c.in_ok-check_attribute.ensures

pub returns-in_err-check_attribute : goal.returns-in_err-check_attribute
returns-in_err-check_attribute c =
    let s = the_schema c.args.names.now in
    let xs = c.args.attributes.now in
    let f = demands_of_attribute (names_of c.args.supertypes.now) in
    let i = c.loop-attribute.attribute-index in
    let lt : i < length xs = omega (arith, c.loop-attribute-test.true) in
    let n = capitals c.in_err-check_attribute.field-0.0 in
    let p = err_from_is_err_and c.from_residual.result c.from_residual.ensures.1 in
    let unmet =
    unmet-more s (λ x. f (attribute_of x)) xs i c.attribute-item.result n lt c.attribute-item.is c.loop-attribute.invariant
    c.in_err-check_attribute.ensures in
    rw (p.1, p.2) (subst (λ ds. IsFirstUnmet s ds n) (mapped-each f attribute_of xs) unmet)

pub returns : goal.returns
returns c =
    let s = the_schema c.args.names.now in
    let xs = c.args.attributes.now in
    let f = demands_of_attribute (names_of c.args.supertypes.now) in
    let i = c.loop-attribute.attribute-index in
    subst (Every (IsMet s))
    (ap (flat_map (λ x. f (attribute_of x))) (take_all i xs c.loop-attribute-test.false)
    ∙ mapped-each f attribute_of xs) c.loop-attribute.invariant
