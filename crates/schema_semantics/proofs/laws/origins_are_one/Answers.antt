use Rattle.schema_semantics.proofs.Nearest.{origins-are-one}
use Rattle.schema_semantics.proofs.laws.origins_are_one.Goals as goal

pub returns : goal.returns
returns c = origins-are-one
