use Rattle.std.proofs.Common.{◌<◌, length, List, [], subst, arith}
use Rattle.std.proofs.lemmas.List.{take_all}
use Rattle.express_syntax.specs.declared.expression.Expr.{Expr}
use Rattle.express_syntax.specs.ExpressionViews.{trees_of}
use Rattle.schema_semantics.specs.Reasons.{OfTrees}
use Rattle.schema_data_types.specs.steps.Values.{AddsAll}
use Rattle.schema_attribute_references.specs.steps.Taking.{schema_in}
use Rattle.schema_expression_types.specs.steps.Scopes.{own_in, variables_in}
use Rattle.schema_expression_types.proofs.Adding.{next-tree, set-of}
use Rattle.schema_expression_types.proofs.sets.possible_items.Goals as goal

pub loop-item-preserved : goal.loop-item-preserved
loop-item-preserved c =
    let xs = c.args.items.now in
    let at = c.loop-item.item-index in
    let lt : at < length xs = omega (arith, c.loop-item-test.true) in
    next-tree (schema_in c.args.scope.now.known) (own_in c.args.scope.now) (variables_in c.args.scope.now) xs at c.item-item.result lt
    c.item-item.is [] c.loop-item.atoms.items c.add_possible.new.atoms.items c.loop-item.invariant
    c.in_ok-add_possible.ensures

pub returns : goal.returns
returns c =
    let s = schema_in c.args.scope.now.known in
    let M = λ (xs : List Expr). OfTrees s (own_in c.args.scope.now) (variables_in c.args.scope.now) (trees_of xs) in
    set-of s (M c.args.items.now) c.loop-item.atoms.items
    (subst (λ xs. AddsAll s [] (M xs) c.loop-item.atoms.items)
    (take_all c.loop-item.item-index c.args.items.now c.loop-item-test.false) c.loop-item.invariant)
