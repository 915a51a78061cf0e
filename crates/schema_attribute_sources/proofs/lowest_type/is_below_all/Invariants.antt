use Rattle.std.proofs.Common.{◌≡◌, drop}
use Rattle.std.specs.List.{list_all}
use Rattle.graphs.specs.Graphs.{graph_of}
use Rattle.express_syntax.specs.ExpressionViews.{capitals}
use Rattle.schema_names.specs.Schemas.{the_schema}
use Rattle.schema_attribute_sources.specs.steps.Deriving.{derives}
use Rattle.schema_attribute_sources.specs.steps.Lowest.{leads, is_below}
use Rattle.schema_attribute_sources.proofs.lowest_type.is_below_all.Given as goal

-- what is left decides
abbrev pub invariant-loop-number : goal.invariant-loop-number
invariant-loop-number l =
    list_all (is_below (derives (the_schema l.schema.names) (graph_of l.lines) (capitals l.asked.name) l.asked.entity)
    (leads (graph_of l.schema.above.items)) l.entity) (drop l.number-index l.types)
    ≡ list_all (is_below (derives (the_schema l.schema.names) (graph_of l.lines) (capitals l.asked.name) l.asked.entity)
    (leads (graph_of l.schema.above.items)) l.entity) l.types
