use Rattle.conformance.proofs.Keyed.{keys_stay_unique}
use Rattle.conformance.proofs.meaning_laws.keys_stay_unique.Goals as goal

pub returns : goal.returns
returns c = keys_stay_unique
