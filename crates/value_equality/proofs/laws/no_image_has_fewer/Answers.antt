use Rattle.value_equality.proofs.Counting.{no_image_has_fewer}
use Rattle.value_equality.proofs.laws.no_image_has_fewer.Goals as goal

pub returns : goal.returns
returns c = no_image_has_fewer
