use Rattle.shrinking.proofs.Told.{second_files_stay}
use Rattle.shrinking.proofs.laws.second_files_stay.Goals as goal

pub returns : goal.returns
returns c = second_files_stay c.second_runs_stay.ensures
