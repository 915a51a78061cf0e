use Rattle.schema_semantics.proofs.Listed.{unchecked-are-one}
use Rattle.schema_semantics.proofs.laws.unchecked_parts_are_one.Goals as goal

pub returns : goal.returns
returns c = unchecked-are-one
