use Rattle.value_equality.proofs.Quotients.{quotients_are_images}
use Rattle.value_equality.proofs.laws.quotients_are_images.Goals as goal

pub returns : goal.returns
returns c = quotients_are_images
