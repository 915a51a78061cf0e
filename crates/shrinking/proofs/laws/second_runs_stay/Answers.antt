use Rattle.shrinking.proofs.Again.{second_runs_stay}
use Rattle.shrinking.proofs.laws.second_runs_stay.Goals as goal

pub returns : goal.returns
returns c = second_runs_stay c.own_outputs_pass.ensures c.second_merges_stay.ensures
