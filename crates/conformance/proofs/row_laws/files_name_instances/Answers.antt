use Rattle.conformance.proofs.FileNames.{files_name_instances}
use Rattle.conformance.proofs.row_laws.files_name_instances.Goals as goal

pub returns : goal.returns
returns c = files_name_instances
