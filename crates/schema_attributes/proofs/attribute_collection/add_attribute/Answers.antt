use Rattle.std.proofs.Common.{ap, sym, subst}
use Rattle.std.proofs.lemmas.Result.{on_ok_weaker}
use Rattle.express_syntax.specs.ExpressionViews.{capitals}
use Rattle.express_syntax.specs.Views.{attribute_of}
use Rattle.schema_names.specs.Schemas.{the_schema}
use Rattle.schema_attributes.specs.steps.Gathering.{AddsAll, Says}
use Rattle.schema_attributes.proofs.attribute_collection.add_attribute.Goals as goal

pub add_redeclared-requires-clause-named : goal.add_redeclared-requires-clause-named
add_redeclared-requires-clause-named c = (capitals c.in-Redeclared.field-0, ap attribute_of c.in-Redeclared.is)

pub returns-in-Unqualified : goal.returns-in-Unqualified
returns-in-Unqualified c =
    on_ok_weaker c.add.result
    (λ h. subst (λ y. AddsAll c.args.table.now
    (Says (the_schema c.args.sources.now.names.now) c.args.class c.args.declaration (attribute_of y)) c.add.new.self)
    (sym c.in-Unqualified.is) h) c.add.ensures
