use Rattle.merge_theorems.proofs.Led.{images_of_rows_are_led}
use Rattle.merge_theorems.proofs.image_laws.images_of_rows_are_led.Goals as goal

pub returns : goal.returns
returns c = images_of_rows_are_led
