use Rattle.graphs.specs.Graphs.{graph_of}
use Rattle.schema_names.specs.Edges.{supertypes_in}
use Rattle.schema_names.specs.Schemas.{the_schema}
use Rattle.schema_names.proofs.Edges.{is-graph}
use Rattle.schema_types.proofs.resolution.above_or_fault.Goals as goal

pub closure-requires-clause-graph : goal.closure-requires-clause-graph
closure-requires-clause-graph c =
    is-graph (the_schema c.args.names.now) supertypes_in (graph_of c.args.supertypes.now) c.requires.graph
