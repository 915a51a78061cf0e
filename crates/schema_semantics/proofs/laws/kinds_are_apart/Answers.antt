use Rattle.schema_semantics.proofs.Supertypes.{kinds-are-apart}
use Rattle.schema_semantics.proofs.laws.kinds_are_apart.Goals as goal

pub returns : goal.returns
returns c = kinds-are-apart
