use Rattle.merge_theorems.proofs.Whole.{merged_files_are_least}
use Rattle.merge_theorems.proofs.merged_file_laws.merged_files_are_least.Goals as goal

pub returns : goal.returns
returns c = merged_files_are_least
