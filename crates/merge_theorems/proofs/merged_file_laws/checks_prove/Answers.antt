use Rattle.merge_theorems.proofs.Headed.{checks_prove}
use Rattle.merge_theorems.proofs.merged_file_laws.checks_prove.Goals as goal

pub returns : goal.returns
returns c = checks_prove c.images_conform.ensures c.no_findings_exactly_where_it_conforms.ensures
