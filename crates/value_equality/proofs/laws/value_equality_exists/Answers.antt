use Rattle.value_equality.proofs.Parting.{value_equality_exists}
use Rattle.value_equality.proofs.laws.value_equality_exists.Goals as goal

pub returns : goal.returns
returns c = value_equality_exists
