use Rattle.std.proofs.Common.{◌≡◌, drop}
use Rattle.std.specs.List.{list_any}
use Rattle.express_syntax.specs.ExpressionViews.{capitals}
use Rattle.schema_names.specs.Schemas.{the_schema}
use Rattle.schema_data_types.specs.steps.Enumerated.{has_item_at}
use Rattle.schema_data_types.proofs.items.any_has_item.Given as goal

-- what is left decides
abbrev pub invariant-loop-part : goal.invariant-loop-part
invariant-loop-part l =
    list_any (has_item_at (the_schema l.tables.names.now) (capitals l.name)) (drop l.part-index l.parts)
    ≡ list_any (has_item_at (the_schema l.tables.names.now) (capitals l.name)) l.parts
