use Rattle.shrink_verify_laws.proofs.Proving.{own_outputs_are_proved}
use Rattle.shrink_verify_laws.proofs.laws.own_outputs_are_proved.Goals as goal

pub returns : goal.returns
returns c = own_outputs_are_proved c.checks_prove.ensures c.answers_are_one.ensures
