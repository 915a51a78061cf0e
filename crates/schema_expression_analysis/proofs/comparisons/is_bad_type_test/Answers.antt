use Rattle.std.proofs.Common.{◌∙◌, ap, sym}
use Rattle.express_syntax.specs.ExpressionViews.{tree_of}
use Rattle.express_syntax.specs.Views.{if_some}
use Rattle.schema_attribute_references.specs.steps.Taking.{schema_in}
use Rattle.schema_expression_types.specs.steps.Scopes.{own_in, variables_in}
use Rattle.schema_expression_analysis.proofs.Agreeing.{chain}
use Rattle.schema_expression_analysis.proofs.Tests.{not-tested, same-test, nothing-holds, not-holds}
use Rattle.schema_expression_analysis.proofs.comparisons.is_bad_type_test.Goals as goal

pub returns-in-None : goal.returns-in-None
returns-in-None c =
    let t = c.args.scope.now in
    let none = sym c.tested.ensures ∙ ap (if_some (λ x. tree_of x.now)) c.in-None.is in
    nothing-holds (not-tested (schema_in t.known) (own_in t) (variables_in t) (tree_of c.args.left.now)
    (tree_of c.args.right.now) none)

pub returns-in_ok-is_type_test-in-Some : goal.returns-in_ok-is_type_test-in-Some
returns-in_ok-is_type_test-in-Some c =
    let t = c.args.scope.now in
    let some = sym c.tested.ensures ∙ ap (if_some (λ x. tree_of x.now)) c.in-Some.is in
    chain (not-holds c.in_ok-is_type_test-in-Some.field-0 c.in_ok-is_type_test-in-Some.ensures)
    (same-test (schema_in t.known) (own_in t) (variables_in t) (tree_of c.args.left.now) (tree_of c.args.right.now)
    (tree_of c.in-Some.argument.now) some)
