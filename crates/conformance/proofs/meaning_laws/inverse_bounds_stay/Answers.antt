use Rattle.conformance.proofs.Bounded.{inverse_bounds_stay}
use Rattle.conformance.proofs.meaning_laws.inverse_bounds_stay.Goals as goal

pub returns : goal.returns
returns c = inverse_bounds_stay
