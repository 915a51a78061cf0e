use Rattle.schema_names.proofs.Carried.{reached-are-supertypes}
use Rattle.schema_names.proofs.laws.reached_are_supertypes.Goals as goal

pub returns : goal.returns
returns c = reached-are-supertypes
