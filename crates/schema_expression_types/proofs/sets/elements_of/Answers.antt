use Rattle.std.proofs.Common.{sym, subst}
use Rattle.std.proofs.lemmas.Result.{IfOk-weaker}
use Rattle.express_syntax.specs.ExpressionViews.{tree_of}
use Rattle.schema_semantics.specs.Sets.{Elements, May}
use Rattle.schema_data_types.specs.steps.Values.{Holds}
use Rattle.schema_attribute_references.specs.steps.Taking.{IsSet, schema_in}
use Rattle.schema_expression_types.specs.steps.Scopes.{own_in, variables_in}
use Rattle.schema_expression_types.proofs.Adding.{elements-additive, set-alike}
use Rattle.schema_expression_types.proofs.sets.elements_of.Goals as goal

pub returns : goal.returns
returns c =
    let s = schema_in c.args.scope.now.known in
    let M = May s (own_in c.args.scope.now) (variables_in c.args.scope.now) (tree_of c.args.expression.now) in
    let xs = c.deref.result.now in
    IfOk-weaker c.elements.result (λ ys. IsSet s (Elements s (Holds s xs)) ys.items)
    (λ ys. IsSet s (Elements s M) ys.items)
    (λ ys h. set-alike s (Elements s) (elements-additive s) M xs ys.items
    (subst (λ zs. IsSet s M zs) (sym c.deref.ensures.value) c.in_ok-atoms.ensures) h) c.elements.ensures
