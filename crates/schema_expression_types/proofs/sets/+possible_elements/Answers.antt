use Rattle.std.proofs.Common.{IfOk, List, ◌∙◌, ap, sym, subst}
use Rattle.express_syntax.specs.declared.expression.Expr.{Expr}
use Rattle.express_syntax.specs.ExpressionViews.{tree_of, trees_of}
use Rattle.schema_semantics.specs.Reasons.{ElementsOf, OfTrees}
use Rattle.schema_attribute_references.specs.steps.Taking.{IsSet, schema_in}
use Rattle.schema_expression_types.specs.steps.Scopes.{own_in, variables_in}
use Rattle.express_syntax.proofs.Layers.{aggregate-seen}
use Rattle.schema_expression_types.proofs.Adding.{elements-otherwise}
use Rattle.schema_expression_types.proofs.sets.+possible_elements.Goals as goal

pub returns-in-Aggregate : goal.returns-in-Aggregate
returns-in-Aggregate t c =
    let s = schema_in c.args.scope.now.known in
    let self = own_in c.args.scope.now in
    let vs = variables_in c.args.scope.now in
    let r = c.possible_items.result in
    subst (λ u. IfOk r (λ t. IsSet s (ElementsOf s self vs u) t.items))
    (sym (ap tree_of c.in-Aggregate.is ∙ aggregate-seen c.in-Aggregate.items))
    (subst (λ (ys : List Expr). IfOk r (λ t. IsSet s (OfTrees s self vs (trees_of ys)) t.items)) c.deref-in-Aggregate.ensures.value
    c.possible_items.ensures)

pub returns-in_default : goal.returns-in_default
returns-in_default t c =
    let s = schema_in c.args.scope.now.known in
    let self = own_in c.args.scope.now in
    let vs = variables_in c.args.scope.now in
    subst (λ M. IfOk c.elements_of.result (λ t. IsSet s M t.items)) (sym (elements-otherwise s self vs
    c.args.expression.now c.in_default.not-Parenthesized c.in_default.not-Aggregate)) c.elements_of.ensures
