use Rattle.partition_tests.proofs.Ordered.{permuted_refer_alike}
use Rattle.partition_tests.proofs.refinements.find.Goals as goal

pub numbered-requires-clause-alike : goal.numbered-requires-clause-alike
numbered-requires-clause-alike c =
    permuted_refer_alike c.args.shapes.now c.args.edges.now c.in_ok-edges.edges c.in_ok-edges.ensures.same
    (c.refer_alike.ensures c.if-not-refer_alike.false)
