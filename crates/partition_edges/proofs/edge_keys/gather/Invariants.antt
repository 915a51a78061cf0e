use Rattle.partitions.specs.Views.{layout}
use Rattle.partition_edges.specs.steps.Steps.{Gathers}
use Rattle.partition_edges.proofs.edge_keys.gather.Given as goal

abbrev pub invariant-loop-class : goal.invariant-loop-class
invariant-loop-class l = Gathers l.edges (layout l.parts) (layout l.groups) l.low l.class l.pairs.items
