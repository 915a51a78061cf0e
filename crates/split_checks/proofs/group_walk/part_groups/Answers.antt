use Rattle.std.proofs.Common.{◌≡◌, sym, subst}
use Rattle.std.proofs.lemmas.Result.{on_ok_weaker}
use Rattle.partitions.specs.Layouts.{count, size}
use Rattle.partitions.specs.Views.{layout}
use Rattle.partition_edges.specs.Edges.{AreEdges}
use Rattle.partition_edges.specs.steps.Steps.{Gathers}
use Rattle.partition_edges.proofs.Gathering.{gathered_places}
use Rattle.split_checks.proofs.Grouping.{grouped}
use Rattle.split_checks.proofs.group_walk.part_groups.Goals as goal

pub part_by_pairs-requires-clause-places : goal.part_by_pairs-requires-clause-places
part_by_pairs-requires-clause-places c =
    gathered_places c.args.edges.now (layout c.args.labels.now) (layout c.args.groups.now) c.args.low
    c.class_count-high.result (size (layout c.args.groups.now)) c.in_ok-pairs.pairs.items c.in_ok-pairs.ensures
    (subst (λ n. AreEdges n c.args.edges.now) (sym c.requires.settled.places) c.requires.edges)

pub returns : goal.returns
returns c =
    let high_is : c.class_count-high.result ≡ count (layout c.args.labels.now) = c.class_count-high.ensures in
    on_ok_weaker c.part_by_pairs.result
    (grouped c.args.edges.now c.args.low (layout c.args.labels.now) (layout c.args.groups.now)
    (layout c.part_by_pairs.new.self) c.in_ok-pairs.pairs.items c.requires.laid c.requires.settled c.requires.edges
    (subst (λ k. Gathers c.args.edges.now (layout c.args.labels.now) (layout c.args.groups.now) c.args.low k
    c.in_ok-pairs.pairs.items) high_is c.in_ok-pairs.ensures)) c.part_by_pairs.ensures
