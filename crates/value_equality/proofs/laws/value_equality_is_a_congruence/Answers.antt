use Rattle.value_equality.proofs.Congruences.{value_equality_is_congruence}
use Rattle.value_equality.proofs.laws.value_equality_is_a_congruence.Goals as goal

pub returns : goal.returns
returns c = value_equality_is_congruence
