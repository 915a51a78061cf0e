use Rattle.std.proofs.Common.{subst}
use Rattle.std.proofs.lemmas.Result.{IfOk-weaker}
use Rattle.express_syntax.specs.ExpressionViews.{tree_of}
use Rattle.schema_attribute_references.specs.steps.Taking.{schema_in}
use Rattle.schema_expression_types.specs.steps.Said.{IsSaid}
use Rattle.schema_expression_types.specs.steps.Scopes.{own_in, variables_in}
use Rattle.schema_expression_analysis.proofs.Agreeing.{chain}
use Rattle.schema_expression_analysis.proofs.Tests.{unsaid, said-is, nothing-holds}
use Rattle.schema_expression_analysis.proofs.comparisons.is_type_test.Goals as goal

pub returns-in-None : goal.returns-in-None
returns-in-None c =
    let t = c.args.scope.now in
    let none = subst (IsSaid (schema_in t.known) (tree_of c.args.left.now)) c.in-None.is c.in_ok-part.ensures in
    nothing-holds (unsaid (schema_in t.known) (own_in t) (variables_in t) (tree_of c.args.left.now)
    (tree_of c.args.expression.now) none)

pub returns-in-Some : goal.returns-in-Some
returns-in-Some c =
    let t = c.args.scope.now in
    let (n, says, k, one) =
    subst (IsSaid (schema_in t.known) (tree_of c.args.left.now)) c.in-Some.is c.in_ok-part.ensures in
    let is =
    said-is (schema_in t.known) (own_in t) (variables_in t) (tree_of c.args.left.now) (tree_of c.args.expression.now) n
    says one in
    IfOk-weaker c.tests_type.result _ _ (λ b h. chain h is) (c.tests_type.ensures n k)
