use Rattle.merge_theorems.proofs.PinsStay.{second_runs_stay}
use Rattle.merge_theorems.proofs.merged_file_laws.second_runs_stay.Goals as goal

pub returns : goal.returns
returns c = second_runs_stay c.no_findings_exactly_where_it_conforms.ensures
