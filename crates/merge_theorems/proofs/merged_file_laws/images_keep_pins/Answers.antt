use Rattle.merge_theorems.proofs.PinsStay.{images_keep_pins}
use Rattle.merge_theorems.proofs.merged_file_laws.images_keep_pins.Goals as goal

pub returns : goal.returns
returns c = images_keep_pins
