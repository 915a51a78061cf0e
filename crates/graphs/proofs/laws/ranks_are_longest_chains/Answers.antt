use Rattle.graphs.proofs.Ranks.{ranks-are-longest}
use Rattle.graphs.proofs.laws.ranks_are_longest_chains.Goals as goal

pub returns : goal.returns
returns c = ranks-are-longest
