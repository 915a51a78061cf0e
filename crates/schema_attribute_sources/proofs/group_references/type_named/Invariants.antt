use Rattle.std.proofs.Common.{◌≡◌, drop}
use Rattle.express_syntax.specs.ExpressionViews.{capitals}
use Rattle.schema_names.specs.Schemas.{the_schema}
use Rattle.schema_attribute_sources.specs.steps.Grouping.{first_named}
use Rattle.schema_attribute_sources.proofs.group_references.type_named.Given as goal

-- what is left decides
abbrev pub invariant-loop-number : goal.invariant-loop-number
invariant-loop-number l =
    first_named (the_schema l.names) (capitals l.name) (drop l.number-index l.types)
    ≡ first_named (the_schema l.names) (capitals l.name) l.types
