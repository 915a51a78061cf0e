use Rattle.value_equality.proofs.Ancestors.{classes_are_ancestors}
use Rattle.value_equality.proofs.laws.classes_are_ancestors.Goals as goal

pub returns : goal.returns
returns c = classes_are_ancestors
