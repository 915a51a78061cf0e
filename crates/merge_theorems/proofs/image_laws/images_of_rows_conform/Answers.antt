use Rattle.merge_theorems.proofs.Conforming.{images_of_rows_conform}
use Rattle.merge_theorems.proofs.image_laws.images_of_rows_conform.Goals as goal

pub returns : goal.returns
returns c = images_of_rows_conform c.images_conform.ensures
