use Rattle.value_equality.proofs.Carried.{images_carry_value_equality}
use Rattle.value_equality.proofs.laws.images_carry_value_equality.Goals as goal

pub returns : goal.returns
returns c = images_carry_value_equality
