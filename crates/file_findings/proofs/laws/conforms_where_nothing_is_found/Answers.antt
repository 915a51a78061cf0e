use Rattle.file_findings.proofs.Nothing.{conforms_where_nothing_is_found}
use Rattle.file_findings.proofs.laws.conforms_where_nothing_is_found.Goals as goal

pub returns : goal.returns
returns c = conforms_where_nothing_is_found
