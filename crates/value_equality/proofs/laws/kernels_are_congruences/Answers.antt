use Rattle.value_equality.proofs.Kernels.{kernels_are_congruences}
use Rattle.value_equality.proofs.laws.kernels_are_congruences.Goals as goal

pub returns : goal.returns
returns c = kernels_are_congruences
