use Rattle.schema_names.proofs.Carried.{reached-are-parts}
use Rattle.schema_names.proofs.laws.reached_are_parts.Goals as goal

pub returns : goal.returns
returns c = reached-are-parts
