use Rattle.std.proofs.Common.{sym, ◌∙◌}
use Rattle.express_syntax.specs.ExpressionViews.{capitals}
use Rattle.schema_names.specs.Schemas.{the_schema}
use Rattle.schema_attribute_sources.proofs.Naming.{nobody-declares, several-declare, one-declares}
use Rattle.schema_attribute_sources.proofs.declaring_entity.declaring.Goals as goal

pub returns-in_default : goal.returns-in_default
returns-in_default c =
    nobody-declares (the_schema c.args.names.now) (capitals c.args.name) c.args.numbers.now (sym c.in_default.ensures)

pub returns-then-another_declares : goal.returns-then-another_declares
returns-then-another_declares c =
    several-declare (the_schema c.args.names.now) (capitals c.args.name) c.args.numbers.now c.in-Some.first
    (sym c.in-Some.ensures) (sym c.another_declares.ensures ∙ c.if-another_declares.true)

pub returns : goal.returns
returns c =
    one-declares (the_schema c.args.names.now) (capitals c.args.name) c.args.numbers.now c.in-Some.first
    (sym c.in-Some.ensures) (sym c.another_declares.ensures ∙ c.if-another_declares.false)
