use Rattle.std.proofs.Common.{◌≡◌, drop}
use Rattle.std.specs.List.{list_any}
use Rattle.express_syntax.specs.ExpressionViews.{capitals}
use Rattle.schema_names.specs.Schemas.{the_schema}
use Rattle.schema_attribute_references.specs.steps.Named.{is_other_at}
use Rattle.schema_attribute_references.proofs.unique_rule_names.any_other.Given as goal

-- what is left decides
abbrev pub invariant-loop-number : goal.invariant-loop-number
invariant-loop-number l =
    list_any (is_other_at (the_schema l.names) (capitals l.name)) (drop l.number-index l.row)
    ≡ list_any (is_other_at (the_schema l.names) (capitals l.name)) l.row
