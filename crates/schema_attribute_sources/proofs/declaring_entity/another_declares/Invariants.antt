use Rattle.std.proofs.Common.{◌≡◌, drop}
use Rattle.std.specs.List.{list_any}
use Rattle.express_syntax.specs.ExpressionViews.{capitals}
use Rattle.schema_names.specs.Schemas.{the_schema}
use Rattle.schema_attribute_sources.specs.steps.Declaring.{declares_beside}
use Rattle.schema_attribute_sources.proofs.declaring_entity.another_declares.Given as goal

-- what is left decides
abbrev pub invariant-loop-number : goal.invariant-loop-number
invariant-loop-number l =
    list_any (declares_beside (the_schema l.names) (capitals l.name) l.first) (drop l.number-index l.numbers)
    ≡ list_any (declares_beside (the_schema l.names) (capitals l.name) l.first) l.numbers
