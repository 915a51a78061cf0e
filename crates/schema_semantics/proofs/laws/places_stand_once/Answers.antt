use Rattle.schema_semantics.proofs.Placed.{places-stand-once}
use Rattle.schema_semantics.proofs.laws.places_stand_once.Goals as goal

pub returns : goal.returns
returns c = places-stand-once
