use Rattle.std.proofs.Common.{take, []}
use Rattle.express_syntax.specs.ExpressionViews.{trees_of}
use Rattle.schema_semantics.specs.Reasons.{OfTrees}
use Rattle.schema_data_types.specs.steps.Values.{AddsAll}
use Rattle.schema_attribute_references.specs.steps.Taking.{schema_in}
use Rattle.schema_expression_types.specs.steps.Scopes.{own_in, variables_in}
use Rattle.schema_expression_types.proofs.sets.possible_items.Given as goal

abbrev pub invariant-loop-item : goal.invariant-loop-item
invariant-loop-item l =
    AddsAll (schema_in l.scope.known) [] (OfTrees (schema_in l.scope.known) (own_in l.scope) (variables_in l.scope)
    (trees_of (take l.item-index l.items))) l.atoms.items
