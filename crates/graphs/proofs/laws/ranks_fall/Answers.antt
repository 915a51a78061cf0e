use Rattle.graphs.proofs.Ranks.{ranks-fall}
use Rattle.graphs.proofs.laws.ranks_fall.Goals as goal

pub returns : goal.returns
returns c = ranks-fall
