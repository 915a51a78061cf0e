use Rattle.schema_semantics.proofs.Ranking.{ranks-are-one}
use Rattle.schema_semantics.proofs.laws.ranks_are_one.Goals as goal

pub returns : goal.returns
returns c = ranks-are-one
