use Rattle.conformance.proofs.RowOneness.{rows_are_one}
use Rattle.conformance.proofs.row_laws.rows_are_one.Goals as goal

pub returns : goal.returns
returns c = rows_are_one
