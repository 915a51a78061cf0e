use Rattle.conformance.proofs.Rowed.{rows_have_names}
use Rattle.conformance.proofs.row_laws.rows_have_names.Goals as goal

pub returns : goal.returns
returns c = rows_have_names
