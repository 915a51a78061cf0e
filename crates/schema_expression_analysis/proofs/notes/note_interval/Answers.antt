use Rattle.express_syntax.specs.ExpressionViews.{tree_of}
use Rattle.schema_attribute_references.specs.steps.Taking.{schema_in}
use Rattle.schema_expression_types.specs.steps.Scopes.{own_in, variables_in}
use Rattle.schema_expression_analysis.proofs.Joined.{finds-interval}
use Rattle.schema_expression_analysis.proofs.notes.note_interval.Goals as goal

pub returns : goal.returns
returns c above below =
    let t = c.args.scope.now in
    finds-interval (schema_in t.known) (own_in t) c.args.survey.now c.in_ok-is_bad_kind.is_bad_kind (variables_in t)
    (tree_of c.args.low.now) (tree_of c.args.item.now) (tree_of c.args.high.now) above below
    c.in_ok-is_bad_kind.ensures
