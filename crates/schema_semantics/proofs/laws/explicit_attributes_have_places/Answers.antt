use Rattle.schema_semantics.proofs.Placed.{explicit-have-places}
use Rattle.schema_semantics.proofs.laws.explicit_attributes_have_places.Goals as goal

pub returns : goal.returns
returns c = explicit-have-places
