use Rattle.conformance.proofs.Once.{files_have_places_once}
use Rattle.conformance.proofs.meaning_laws.files_have_places_once.Goals as goal

pub returns : goal.returns
returns c = files_have_places_once
