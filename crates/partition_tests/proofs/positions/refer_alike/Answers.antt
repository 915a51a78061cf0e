use Rattle.std.proofs.Common.{arith}
use Rattle.partition_tests.proofs.Ordered.{each_alike}
use Rattle.partition_tests.proofs.positions.refer_alike.Goals as goal

pub returns : goal.returns
returns c =
    let e = c.loop-i.auto.i-end in
    λ _. each_alike c.args.shapes.now c.args.edges.now
    (λ k l. c.loop-i.invariant k (omega (arith, l, e, c.loop-i-test.false)))
