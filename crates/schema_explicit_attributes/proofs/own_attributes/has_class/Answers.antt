use Rattle.std.proofs.Common.{◌∙◌}
use Rattle.express_syntax.specs.ExpressionViews.{capitals}
use Rattle.schema_names.specs.steps.OwnNames.{names_at}
use Rattle.schema_names.specs.Schemas.{the_schema}
use Rattle.schema_explicit_attributes.proofs.Classes.{includes-turned}
use Rattle.schema_explicit_attributes.proofs.own_attributes.has_class.Goals as goal

pub returns-in-Some : goal.returns-in-Some
returns-in-Some c =
    c.in-Some.ensures
    ∙ includes-turned (names_at (the_schema c.args.names.now) c.args.class c.args.number) (capitals c.args.name)
