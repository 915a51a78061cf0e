use Rattle.std.proofs.lemmas.Result.{IfOk-weaker}
use Rattle.express_syntax.specs.ExpressionViews.{tree_of}
use Rattle.schema_attribute_references.specs.steps.Taking.{schema_in}
use Rattle.schema_expression_types.specs.steps.Scopes.{own_in, variables_in}
use Rattle.schema_expression_analysis.proofs.Agreeing.{chain}
use Rattle.schema_expression_analysis.proofs.Tests.{equal-kind, in-kind, other-kind}
use Rattle.schema_expression_analysis.proofs.comparisons.is_bad_kind.Goals as goal

pub returns-in-Equal : goal.returns-in-Equal
returns-in-Equal c =
    let t = c.args.scope.now in
    let is =
    equal-kind (schema_in t.known) (own_in t) (variables_in t) (tree_of c.args.left.now) (tree_of c.args.right.now)
    c.args.relation c.in-Equal.is in
    IfOk-weaker c.are_deep.result _ _ (λ b h. chain h is) c.are_deep.ensures

pub returns-in-In : goal.returns-in-In
returns-in-In c =
    let t = c.args.scope.now in
    let is =
    in-kind (schema_in t.known) (own_in t) (variables_in t) (tree_of c.args.left.now) (tree_of c.args.right.now)
    c.args.relation c.in-In.is in
    IfOk-weaker c.are_deep_in.result _ _ (λ b h. chain h is) c.are_deep_in.ensures

pub returns-in_default : goal.returns-in_default
returns-in_default c =
    let t = c.args.scope.now in
    let is =
    other-kind (schema_in t.known) (own_in t) (variables_in t) (tree_of c.args.left.now) (tree_of c.args.right.now)
    c.args.relation c.in_default.not-Equal c.in_default.not-NotEqual c.in_default.not-In in
    IfOk-weaker c.one_is_unordered.result _ _ (λ b h. chain h is) c.one_is_unordered.ensures
