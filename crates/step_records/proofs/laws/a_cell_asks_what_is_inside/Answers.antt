use Rattle.step_records.proofs.Asking.{asks_inside}
use Rattle.step_records.proofs.laws.a_cell_asks_what_is_inside.Goals as goal

pub returns : goal.returns
returns c = asks_inside
