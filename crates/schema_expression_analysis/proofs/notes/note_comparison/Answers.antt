use Rattle.express_syntax.specs.ExpressionViews.{tree_of}
use Rattle.schema_attribute_references.specs.steps.Taking.{schema_in}
use Rattle.schema_expression_types.specs.steps.Scopes.{own_in, variables_in}
use Rattle.schema_expression_analysis.proofs.Joined.{finds-comparison}
use Rattle.schema_expression_analysis.proofs.notes.note_comparison.Goals as goal

pub returns : goal.returns
returns c =
    let t = c.args.scope.now in
    finds-comparison (schema_in t.known) (own_in t) c.args.survey.now c.in_ok-is_bad_test.is_bad_test
    c.in_ok-is_bad_kind.is_bad_kind (variables_in t) (tree_of c.args.left.now) c.args.relation
    (tree_of c.args.right.now) c.in_ok-is_bad_test.ensures c.in_ok-is_bad_kind.ensures
