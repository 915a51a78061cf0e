use Rattle.value_equality.proofs.Reduced.{quotients_stay}
use Rattle.value_equality.proofs.laws.quotients_stay.Goals as goal

pub returns : goal.returns
returns c = quotients_stay
