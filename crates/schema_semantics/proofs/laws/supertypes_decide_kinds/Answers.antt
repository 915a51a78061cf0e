use Rattle.schema_semantics.proofs.Supertypes.{supertypes-decide-kinds}
use Rattle.schema_semantics.proofs.laws.supertypes_decide_kinds.Goals as goal

pub returns : goal.returns
returns c = supertypes-decide-kinds
