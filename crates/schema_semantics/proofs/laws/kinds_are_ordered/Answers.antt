use Rattle.schema_semantics.proofs.Supertypes.{kinds-are-ordered}
use Rattle.schema_semantics.proofs.laws.kinds_are_ordered.Goals as goal

pub returns : goal.returns
returns c = kinds-are-ordered
