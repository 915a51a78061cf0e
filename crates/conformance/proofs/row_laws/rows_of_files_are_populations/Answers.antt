use Rattle.conformance.proofs.FileRows.{rows_of_files_are_populations}
use Rattle.conformance.proofs.row_laws.rows_of_files_are_populations.Goals as goal

pub returns : goal.returns
returns c = rows_of_files_are_populations
