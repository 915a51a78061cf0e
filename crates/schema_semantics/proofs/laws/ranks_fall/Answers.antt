use Rattle.schema_semantics.proofs.Ranking.{ranks-fall}
use Rattle.schema_semantics.proofs.laws.ranks_fall.Goals as goal

pub returns : goal.returns
returns c = ranks-fall
