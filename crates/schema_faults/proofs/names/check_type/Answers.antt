use Rattle.std.proofs.Common.{◌∙◌, sym}
use Rattle.express_syntax.specs.ExpressionViews.{capitals}
use Rattle.schema_names.specs.Schemas.{the_schema}
use Rattle.schema_faults.proofs.Asking.{type-met, type-unmet}
use Rattle.schema_faults.proofs.names.check_type.Goals as goal

pub returns-in-Some : goal.returns-in-Some
returns-in-Some c = (
  type-met (the_schema c.args.names.now) (capitals c.args.word) c.in-Some.field-0 (sym c.find.ensures ∙ c.in-Some.is),
  tt,
)

pub returns-in-None : goal.returns-in-None
returns-in-None c =
    type-unmet (the_schema c.args.names.now) (capitals c.args.word) (sym c.find.ensures ∙ c.in-None.is)
