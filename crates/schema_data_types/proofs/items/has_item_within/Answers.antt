use Rattle.std.proofs.Common.{◌∙◌, ap}
use Rattle.std.specs.List.{list_any}
use Rattle.graphs.proofs.RowLists.{row-is}
use Rattle.express_syntax.specs.ExpressionViews.{capitals}
use Rattle.schema_names.specs.Schemas.{the_schema}
use Rattle.schema_data_types.specs.steps.Enumerated.{has_item_at}
use Rattle.schema_data_types.proofs.items.has_item_within.Goals as goal

pub returns : goal.returns
returns c =
    let row =
    row-is (λ v. v.items) c.args.tables.now.parts.now.giving.items c.args.part c.index.result.now c.deref.result.now
    c.requires c.index.ensures c.deref.ensures.value in
    c.any_has_item.ensures
    ∙ ap (list_any (has_item_at (the_schema c.args.tables.now.names.now) (capitals c.args.name))) row
