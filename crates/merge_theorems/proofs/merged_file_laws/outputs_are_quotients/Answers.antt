use Rattle.merge_theorems.proofs.Outputs.{outputs_are_quotients}
use Rattle.merge_theorems.proofs.merged_file_laws.outputs_are_quotients.Goals as goal

pub returns : goal.returns
returns c = outputs_are_quotients
