use Rattle.partitions.specs.Views.{layout}
use Rattle.partition_edges.specs.steps.Steps.{Adds}
use Rattle.partition_edges.proofs.Gathering.{IsFirst}
use Rattle.partition_edges.proofs.edge_keys.push_edges.Given as goal

abbrev pub invariant-loop-edge : goal.invariant-loop-edge
invariant-loop-edge l =
    Adds (layout l.groups) l.class (IsFirst l.edges l.edge-index) l.initial.pairs.items l.pairs.items
