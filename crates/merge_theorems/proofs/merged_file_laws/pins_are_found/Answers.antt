use Rattle.merge_theorems.proofs.PinsFound.{pins_are_found}
use Rattle.merge_theorems.proofs.merged_file_laws.pins_are_found.Goals as goal

pub returns : goal.returns
returns c = pins_are_found
