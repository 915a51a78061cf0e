use Rattle.std.proofs.Common.{IsTrue, true, false, ◌≡◌, sym, ◌∙◌}
use Rattle.express_syntax.specs.ExpressionViews.{capitals, qualifiers_of}
use Rattle.schema_attribute_references.specs.steps.Taking.{schema_in}
use Rattle.schema_expression_types.specs.steps.Scopes.{own_in, variables_in}
use Rattle.schema_expression_types.proofs.Choosing.{means-type, means-item, means-nothing}
use Rattle.schema_expression_types.proofs.meanings.item_meaning.Goals as goal

pub returns-then-begin_with_item : goal.returns-then-begin_with_item
returns-then-begin_with_item c other none =
    means-type (schema_in c.args.scope.now.known) (own_in c.args.scope.now) (variables_in c.args.scope.now) (capitals c.args.name) other
    none (qualifiers_of c.args.qualifiers.now) (c.begin_with_item.ensures.0 c.if-begin_with_item.true)

pub returns-then-has : goal.returns-then-has
returns-then-has c other none =
    let is = c.requires.scope.items c.args.name in
    means-item (schema_in c.args.scope.now.known) (own_in c.args.scope.now) (variables_in c.args.scope.now) (capitals c.args.name) other
    none (qualifiers_of c.args.qualifiers.now)
    (λ h. let e = sym (c.begin_with_item.ensures.1 h) ∙ c.if-begin_with_item.false in absurd (cc))
    (is.0 (sym c.has.ensures ∙ c.if-has.true))

pub returns-else-has : goal.returns-else-has
returns-else-has c other none =
    let is = c.requires.scope.items c.args.name in
    means-nothing (schema_in c.args.scope.now.known) (own_in c.args.scope.now) (variables_in c.args.scope.now) (capitals c.args.name)
    other none (qualifiers_of c.args.qualifiers.now)
    (λ h. let e = sym (c.begin_with_item.ensures.1 h) ∙ c.if-begin_with_item.false in absurd (cc))
    (λ h. let e = sym (c.has.ensures ∙ is.1 h) ∙ c.if-has.false in absurd (cc))
