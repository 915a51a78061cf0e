use Rattle.schema_semantics.proofs.Climbing.{places-are-explicit}
use Rattle.schema_semantics.proofs.laws.places_are_explicit.Goals as goal

pub returns : goal.returns
returns c = places-are-explicit
