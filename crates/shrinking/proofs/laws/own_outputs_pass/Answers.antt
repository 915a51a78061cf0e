use Rattle.shrinking.proofs.Again.{own_outputs_pass}
use Rattle.shrinking.proofs.laws.own_outputs_pass.Goals as goal

pub returns : goal.returns
returns c = own_outputs_pass c.conforms_where_nothing_is_found.ensures
