use Rattle.std.proofs.Common.{◌||◌, ◌++◌, ◌∙◌, ap, refl}
use Rattle.express_syntax.specs.ExpressionViews.{root_of, qualifiers_of}
use Rattle.schema_attribute_references.specs.steps.Taking.{schema_in}
use Rattle.schema_expression_types.specs.steps.Scopes.{own_in, variables_in}
use Rattle.schema_expression_analysis.proofs.Joined.{finds-reference}
use Rattle.schema_expression_analysis.proofs.notes.note_reference.Goals as goal

pub returns : goal.returns
returns c =
    let t = c.args.scope.now in
    let old = c.args.survey.now in
    let r = c.in_ok-reference.reference in
    finds-reference (schema_in t.known) (own_in t) old
    (record old { has_unclear_name = old.has_unclear_name || r.is_unclear; uses = c.extend_from_slice.new.self })
    (variables_in t) (root_of c.args.root) (qualifiers_of c.args.qualifiers.now) r c.in_ok-reference.ensures refl refl
    refl refl
    (c.in_ok-extend_from_slice.ensures.items ∙ ap (λ js. old.uses.items ++ js) c.deref.ensures.value)
