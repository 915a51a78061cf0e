use Rattle.std.proofs.Common.{◌≡◌, ℕ, subst, sym, arith}
use Rattle.std.proofs.lemmas.Result.{on_ok_weaker}
use Rattle.partitions.specs.Layouts.{Layout, size, count}
use Rattle.partitions.specs.Views.{layout}
use Rattle.partition_edges.specs.Edges.{AreEdges}
use Rattle.partition_edges.specs.steps.Steps.{Gathers}
use Rattle.partition_edges.proofs.Gathering.{gathered_places}
use Rattle.partition_refinement.proofs.PartedRounds.{first_parts}
use Rattle.partition_refinement.proofs.refinement.first_round.Goals as goal

pub part_by_pairs-requires-clause-places : goal.part_by_pairs-requires-clause-places
part_by_pairs-requires-clause-places c =
    let p : Layout = layout c.args.parts.now in
    let q : Layout = layout c.part_by_numbers.new.self in
    let sizes : size q ≡ size p = c.in_ok-part_by_numbers.ensures.finer.places in
    gathered_places c.args.edges.now p p c.min.result c.class_count-high.result (size q) c.in_ok-pairs.pairs.items
    c.in_ok-pairs.ensures (subst (λ n. AreEdges n c.args.edges.now) (sym sizes) c.requires.edges)

pub returns : goal.returns
returns c =
    let p : Layout = layout c.args.parts.now in
    let q : Layout = layout c.part_by_numbers.new.self in
    let r : Layout = layout c.part_by_pairs.new.self in
    let high_is : c.class_count-high.result ≡ count p = c.class_count-high.ensures in
    let low : ℕ = c.min.result in
    let low_is = c.min.ensures in
    on_ok_weaker c.part_by_pairs.result
    (first_parts c.args.edges.now p low c.in_ok-pairs.pairs.items
    (λ x l. (c.requires.laid.within x l).known) c.requires.edges
    (subst (λ k. Gathers c.args.edges.now p p low k c.in_ok-pairs.pairs.items) high_is c.in_ok-pairs.ensures)
    q r c.args.shapes.now (omega arith) c.requires.each c.requires.alike c.in_ok-part_by_numbers.ensures)
    c.part_by_pairs.ensures
