use Rattle.std.proofs.Common.{◌<◌, length, arith}
use Rattle.std.proofs.Math.Logic.{∥∥₁_map}
use Rattle.graphs.specs.Graphs.{graph_of}
use Rattle.schema_names.specs.Schemas.{the_schema}
use Rattle.schema_types.proofs.Asked.{supers-are, row-seen}
use Rattle.schema_types.proofs.types.ResolvedTypes.supers.Goals as goal

pub returns : goal.returns
returns c =
    let rows = c.args.self.now.above.items in
    let each = c.args.self.now.above_each in
    let few = c.requires in
    let lt : c.args.entity < length rows = omega (arith, each, few) in
    ∥∥₁_map c.args.self.now.above_are
    (supers-are (the_schema c.args.self.now.names) (graph_of rows) c.args.entity c.deref.result.now
    (row-seen rows c.args.entity c.index.result.now c.deref.result.now lt c.index.ensures c.deref.ensures.value))
