use Rattle.std.proofs.Common.{◌<◌, length, arith, subst, sym}
use Rattle.std.proofs.lemmas.List.{drop_all}
use Rattle.express_syntax.specs.ExpressionViews.{qualifiers_of}
use Rattle.schema_attribute_references.specs.steps.Taking.{schema_in}
use Rattle.schema_expression_types.specs.steps.Paths.{GoesOn}
use Rattle.schema_expression_types.proofs.Walking.{next-goes, goes-nowhere}
use Rattle.schema_expression_types.proofs.paths.follow.Goals as goal

pub loop-qualifier-preserved : goal.loop-qualifier-preserved
loop-qualifier-preserved c t h =
    let xs = c.args.qualifiers.now in
    let at = c.loop-qualifier.qualifier-index in
    let lt : at < length xs = omega (arith, c.loop-qualifier-test.true) in
    c.loop-qualifier.invariant t (next-goes (schema_in c.args.known.now) xs at c.qualifier-item.result lt c.qualifier-item.is
    c.loop-qualifier.reference c.go_on.new.reference t c.in_ok-go_on.ensures h)

pub returns : goal.returns
returns c =
    let s = schema_in c.args.known.now in
    let t = c.loop-qualifier.reference in
    c.loop-qualifier.invariant t (subst (λ ys. GoesOn s t (qualifiers_of ys) t)
    (sym (drop_all c.loop-qualifier.qualifier-index c.args.qualifiers.now c.loop-qualifier-test.false)) (goes-nowhere s t))
