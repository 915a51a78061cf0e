use Rattle.std.proofs.Common.{◌≡◌, map, drop, get_or, max}
use Rattle.graphs.specs.Orders.{above}
use Rattle.graphs.proofs.ranking.rank_above.Given as goal

abbrev pub invariant-loop-b : goal.invariant-loop-b
invariant-loop-b l = max l.rank (above (map (λ b. get_or l.ranks b 0) (drop l.b-index l.after)))
    ≡ above (map (λ b. get_or l.ranks b 0) l.after)
