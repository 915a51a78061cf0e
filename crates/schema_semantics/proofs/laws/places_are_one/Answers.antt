use Rattle.schema_semantics.proofs.Placed.{places-are-one}
use Rattle.schema_semantics.proofs.laws.places_are_one.Goals as goal

pub returns : goal.returns
returns c = places-are-one
