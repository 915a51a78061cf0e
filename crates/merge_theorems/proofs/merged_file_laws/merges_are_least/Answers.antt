use Rattle.merge_theorems.proofs.Headed.{merges_are_least}
use Rattle.merge_theorems.proofs.merged_file_laws.merges_are_least.Goals as goal

pub returns : goal.returns
returns c = merges_are_least c.images_conform.ensures c.no_findings_exactly_where_it_conforms.ensures
