use Rattle.value_equality.proofs.Reduced.{quotients_are_reduced}
use Rattle.value_equality.proofs.laws.quotients_are_reduced.Goals as goal

pub returns : goal.returns
returns c = quotients_are_reduced
