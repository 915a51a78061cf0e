use Rattle.merge_theorems.proofs.Again.{second_merges_stay}
use Rattle.merge_theorems.proofs.merged_file_laws.second_merges_stay.Goals as goal

pub returns : goal.returns
returns c = second_merges_stay c.images_conform.ensures c.no_findings_exactly_where_it_conforms.ensures
