use Rattle.std.proofs.Common.{◌≡◌, IsTrue, ◌↔◌, subst}
use Rattle.express_syntax.specs.ExpressionViews.{capitals}
use Rattle.schema_semantics.specs.Attributes.{HasFirstShape}
use Rattle.schema_attribute_references.specs.steps.Taking.{schema_in}
use Rattle.schema_unchecked.proofs.Reshaped.{other-shape, same-shape}
use Rattle.schema_unchecked.proofs.explicit_attributes.has_other_shape.Goals as goal

pub returns-in-Some : goal.returns-in-Some
returns-in-Some c k d =
    let s = schema_in c.args.findings.now.known in
    other-shape s c.args.attribute c.redeclared_entity.result c.in-Some.entity c.args.data_type c.has_first_shape.result
    c.redeclared_entity.ensures c.in-Some.is
    (λ p m known here at is. subst (λ w. IsTrue c.has_first_shape.result ↔ HasFirstShape s p (capitals w) m)
    c.name.ensures (c.has_first_shape.ensures p m known here at is)) k d

pub returns-in-None : goal.returns-in-None
returns-in-None c k d =
    same-shape (schema_in c.args.findings.now.known) c.args.attribute c.redeclared_entity.result c.redeclared_entity.ensures
    c.in-None.is k
