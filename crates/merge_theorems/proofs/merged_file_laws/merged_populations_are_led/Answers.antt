use Rattle.merge_theorems.proofs.Whole.{merged_populations_are_led}
use Rattle.merge_theorems.proofs.merged_file_laws.merged_populations_are_led.Goals as goal

pub returns : goal.returns
returns c = merged_populations_are_led
