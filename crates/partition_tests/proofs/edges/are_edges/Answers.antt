use Rattle.std.proofs.Common.{arith}
use Rattle.partition_tests.proofs.Ordered.{ordered_are_edges}
use Rattle.partition_tests.proofs.edges.are_edges.Goals as goal

pub returns : goal.returns
returns c =
    let e = c.loop-i.auto.i-end in
    λ _. ordered_are_edges c.args.size c.args.edges.now (λ k l. c.loop-i.invariant k (omega (arith, l, e, c.loop-i-test.false)))
