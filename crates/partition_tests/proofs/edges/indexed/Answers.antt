use Rattle.std.proofs.Common.{subst}
use Rattle.std.specs.Prelude.{IfOk}
use Rattle.std.specs.List.Sorted.{IsPermutation}
use Rattle.partition_edges.specs.Edges.{AreEdges}
use Rattle.partition_edges.proofs.Searching.{edges_permuted}
use Rattle.partition_tests.proofs.Ordered.{targets_are_places}
use Rattle.partition_tests.proofs.edges.indexed.Goals as goal

pub of-requires : goal.of-requires
of-requires c =
    targets_are_places c.args.size c.in_ok-edges.edges.items
    (subst (AreEdges c.args.size) c.deref.ensures.value (c.are_edges.ensures c.if-not-are_edges.false))

pub returns-in-Ok : goal.returns-in-Ok
returns-in-Ok c =
    let items = c.in_ok-edges.edges.items in
    let moved = subst (λ r. IfOk r (λ x. IsPermutation items x)) c.in-Ok.is c.of.ensures in
    record {
      edges = edges_permuted c.args.size items c.in-Ok.indexed moved
          (subst (AreEdges c.args.size) c.deref.ensures.value (c.are_edges.ensures c.if-not-are_edges.false));
      same = subst (λ es. IsPermutation es c.in-Ok.indexed) c.in_ok-edges.ensures moved;
    }
