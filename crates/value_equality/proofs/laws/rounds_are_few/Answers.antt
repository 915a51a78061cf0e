use Rattle.value_equality.proofs.Few.{rounds_are_few}
use Rattle.value_equality.proofs.laws.rounds_are_few.Goals as goal

pub returns : goal.returns
returns c = rounds_are_few
