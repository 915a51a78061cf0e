use Rattle.conformance.proofs.Saying.{outcomes_are_least}
use Rattle.conformance.proofs.meaning_laws.outcomes_are_least.Goals as goal

pub returns : goal.returns
returns c = outcomes_are_least
