use Rattle.graphs.specs.Graphs.{graph_of}
use Rattle.schema_data_types.proofs.value_givers.parts_of.Goals as goal

pub returns : goal.returns
returns c = record {
  graph = graph_of c.args.edges.now;
  drawn = c.requires.graph;
  giving = c.in_ok-giving.ensures;
  selects = c.in_ok-selects.ensures;
}
