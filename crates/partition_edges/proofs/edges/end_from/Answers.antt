use Rattle.partition_edges.proofs.Searching.{start_next}
use Rattle.partition_edges.proofs.edges.end_from.Goals as goal

pub returns-else-edges-at : goal.returns-else-edges-at
returns-else-edges-at c =
    start_next c.args.edges.now c.args.target c.args.first c.loop-at.at c.requires.sorted c.requires.begin
    c.loop-at.invariant.later c.loop-at.invariant.within c.loop-at.invariant.before (λ l. c.if-edges-at.false)
