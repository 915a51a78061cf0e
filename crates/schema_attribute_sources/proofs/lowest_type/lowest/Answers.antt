use Rattle.std.proofs.Common.{arith, None}
use Rattle.graphs.specs.Graphs.{graph_of}
use Rattle.express_syntax.specs.ExpressionViews.{capitals}
use Rattle.schema_names.specs.Schemas.{the_schema}
use Rattle.schema_attribute_sources.specs.steps.Deriving.{derives}
use Rattle.schema_attribute_sources.specs.steps.Lowest.{leads, lowest_from}
use Rattle.schema_attribute_sources.proofs.Least.{lowest-next}
use Rattle.schema_attribute_sources.proofs.lowest_type.lowest.Goals as goal

pub loop-number-preserved : goal.loop-number-preserved
loop-number-preserved c =
    let s = the_schema c.args.schema.now.names in
    let test = derives s (graph_of c.args.lines.now) (capitals c.args.asked.name) c.args.asked.entity in
    let r = leads (graph_of c.args.schema.now.above.items) in
    lowest-next test r c.args.types.now c.loop-number.number-index c.loop-number.lowest c.with_type-lowest.result
    (lowest_from test r None c.args.types.now) (omega (arith, c.loop-number-test.true)) c.with_type-lowest.ensures
    c.loop-number.invariant
