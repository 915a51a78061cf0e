use Rattle.merge_theorems.proofs.Whole.{merged_files_conform}
use Rattle.merge_theorems.proofs.merged_file_laws.merged_files_conform.Goals as goal

pub returns : goal.returns
returns c = merged_files_conform c.images_conform.ensures c.no_findings_exactly_where_it_conforms.ensures
