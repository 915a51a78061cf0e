use Rattle.std.proofs.Common.{◌≡◌, subst}
use Rattle.partitions.specs.Layouts.{Layout, size, count}
use Rattle.partitions.specs.Views.{layout}
use Rattle.partition_edges.specs.steps.Steps.{Gathers}
use Rattle.partition_edges.proofs.Gathering.{gathered_places}
use Rattle.partition_refinement.proofs.PartedRounds.{rounds_part}
use Rattle.partition_refinement.proofs.refinement.next_round.Goals as goal

pub part_by_pairs-requires-clause-places : goal.part_by_pairs-requires-clause-places
part_by_pairs-requires-clause-places c =
    let p : Layout = layout c.args.parts.now in
    gathered_places c.args.edges.now p p c.args.low c.class_count-high.result (size p) c.in_ok-pairs.pairs.items
    c.in_ok-pairs.ensures c.requires.edges

pub returns : goal.returns
returns c =
    let p : Layout = layout c.args.parts.now in
    let high_is : c.class_count-high.result ≡ count p = c.class_count-high.ensures in
    rounds_part c.args.edges.now p c.args.low c.in_ok-pairs.pairs.items
    (λ x l. (c.requires.laid.within x l).known) c.requires.edges
    (subst (λ k. Gathers c.args.edges.now p p c.args.low k c.in_ok-pairs.pairs.items) high_is c.in_ok-pairs.ensures)
    (layout c.part_by_pairs.new.self) c.in_ok-part_by_pairs.ensures
