use Rattle.conformance.proofs.Rowed.{bags_of_rows_are_pinned}
use Rattle.conformance.proofs.row_laws.bags_of_rows_are_pinned.Goals as goal

pub returns : goal.returns
returns c = bags_of_rows_are_pinned
