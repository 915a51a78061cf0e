use Rattle.std.proofs.Common.{◌<◌, length, arith, get_or}
use Rattle.graphs.proofs.Ranks.{above-next}
use Rattle.graphs.proofs.ranking.rank_above.Goals as goal

pub loop-b-preserved : goal.loop-b-preserved
loop-b-preserved c =
    let lt : c.loop-b.b-index < length c.args.after.now = omega (arith, c.loop-b-test.true) in
    above-next (λ b. get_or c.args.ranks.now b 0) c.args.after.now c.loop-b.b-index c.loop-b.rank c.greater-rank.result
    lt c.greater-rank.ensures c.loop-b.invariant
