use Rattle.partitions.specs.Views.{layout}
use Rattle.partition_edges.specs.steps.Steps.{Adds}
use Rattle.partition_edges.proofs.Gathering.{IsIntoFirst}
use Rattle.partition_edges.proofs.edge_keys.push_members.Given as goal

abbrev pub invariant-loop-place : goal.invariant-loop-place
invariant-loop-place l =
    Adds (layout l.groups) l.class (IsIntoFirst l.edges l.members l.place-index) l.initial.pairs.items l.pairs.items
