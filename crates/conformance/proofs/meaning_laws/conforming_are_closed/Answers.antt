use Rattle.conformance.proofs.Closed.{conforming_are_closed}
use Rattle.conformance.proofs.meaning_laws.conforming_are_closed.Goals as goal

pub returns : goal.returns
returns c = conforming_are_closed
