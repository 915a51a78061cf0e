use Rattle.std.proofs.Common.{◌∙◌, ◌++◌, ap, sym, subst}
use Rattle.express_syntax.specs.ExpressionViews.{root_of, qualifiers_of}
use Rattle.schema_semantics.specs.Sets.{OfReference}
use Rattle.schema_data_types.specs.steps.Values.{AddsAll}
use Rattle.schema_attribute_references.specs.steps.Taking.{schema_in}
use Rattle.schema_expression_types.specs.steps.Scopes.{own_in, variables_in}
use Rattle.schema_expression_types.proofs.Adding.{adds-set}
use Rattle.schema_expression_types.proofs.sets.add_reference.Goals as goal

pub returns : goal.returns
returns c =
    let s = schema_in c.args.scope.now.known in
    let M = OfReference s (own_in c.args.scope.now) (variables_in c.args.scope.now) (root_of c.args.root)
    (qualifiers_of c.args.qualifiers.now) in
    let old = c.args.atoms.now.items in
    let more = c.in_ok-reference.reference.may.items in
    subst (AddsAll s old M) (sym (c.in_ok-extend_from_slice.ensures.items ∙ ap (λ xs. old ++ xs) c.deref.ensures.value))
    (adds-set s M old more c.in_ok-reference.ensures.may)
