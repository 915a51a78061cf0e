use Rattle.std.proofs.Common.{subst}
use Rattle.express_syntax.specs.ExpressionViews.{tree_of}
use Rattle.schema_semantics.specs.Sets.{May}
use Rattle.schema_data_types.specs.steps.Values.{AddsAll}
use Rattle.schema_attribute_references.specs.steps.Taking.{schema_in}
use Rattle.schema_expression_types.specs.steps.Scopes.{own_in, variables_in}
use Rattle.schema_expression_types.proofs.Adding.{set-of}
use Rattle.schema_expression_types.proofs.sets.possible.Goals as goal

pub returns : goal.returns
returns c =
    let s = schema_in c.args.scope.now.known in
    let M = May s (own_in c.args.scope.now) (variables_in c.args.scope.now) (tree_of c.args.expression.now) in
    let new = c.add_possible.new.atoms.items in
    set-of s M new (subst (λ xs. AddsAll s xs M new) c.new-atoms.ensures.items c.in_ok-add_possible.ensures)
