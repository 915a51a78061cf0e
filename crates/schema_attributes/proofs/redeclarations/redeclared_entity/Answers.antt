use Rattle.std.proofs.Common.{None, sym, subst}
use Rattle.express_syntax.specs.ExpressionViews.{capitals}
use Rattle.express_syntax.specs.Views.{attribute_of}
use Rattle.schema_names.specs.Schemas.{the_schema}
use Rattle.schema_attributes.specs.steps.Redeclaring.{IsRedeclaredAt}
use Rattle.schema_attributes.proofs.Origins.{redeclared-at, own-redeclares-none}
use Rattle.schema_attributes.proofs.redeclarations.redeclared_entity.Goals as goal

pub returns-in-Unqualified : goal.returns-in-Unqualified
returns-in-Unqualified c =
    let s = the_schema c.args.names.now in
    subst (λ x. IsRedeclaredAt s (attribute_of x) None) (sym c.in-Unqualified.is)
    (own-redeclares-none s (capitals c.in-Unqualified.field-0))

pub returns-in-Redeclared : goal.returns-in-Redeclared
returns-in-Redeclared c =
    let s = the_schema c.args.names.now in
    subst (λ x. IsRedeclaredAt s (attribute_of x) c.entity_origin.result) (sym c.in-Redeclared.is)
    (redeclared-at s c.requires.resolved (capitals c.in-Redeclared.holder) (capitals c.in-Redeclared.name)
    c.entity_origin.result c.entity_origin.ensures)
