use Rattle.merge_theorems.proofs.Filed.{files_are_laid_out}
use Rattle.merge_theorems.proofs.image_laws.files_are_laid_out.Goals as goal

pub returns : goal.returns
returns c = files_are_laid_out c.no_findings_exactly_where_it_conforms.ensures
