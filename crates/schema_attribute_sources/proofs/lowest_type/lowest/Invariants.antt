use Rattle.std.proofs.Common.{◌≡◌, None, drop}
use Rattle.graphs.specs.Graphs.{graph_of}
use Rattle.express_syntax.specs.ExpressionViews.{capitals}
use Rattle.schema_names.specs.Schemas.{the_schema}
use Rattle.schema_attribute_sources.specs.steps.Deriving.{derives}
use Rattle.schema_attribute_sources.specs.steps.Lowest.{leads, lowest_from}
use Rattle.schema_attribute_sources.proofs.lowest_type.lowest.Given as goal

abbrev pub invariant-loop-number : goal.invariant-loop-number
invariant-loop-number l =
    lowest_from (derives (the_schema l.schema.names) (graph_of l.lines) (capitals l.asked.name) l.asked.entity)
    (leads (graph_of l.schema.above.items)) l.lowest (drop l.number-index l.types)
    ≡ lowest_from (derives (the_schema l.schema.names) (graph_of l.lines) (capitals l.asked.name) l.asked.entity)
    (leads (graph_of l.schema.above.items)) None l.types
