use Rattle.schema_semantics.proofs.Nearest.{inverted-are-one}
use Rattle.schema_semantics.proofs.laws.inverted_are_one.Goals as goal

pub returns : goal.returns
returns c = inverted-are-one
