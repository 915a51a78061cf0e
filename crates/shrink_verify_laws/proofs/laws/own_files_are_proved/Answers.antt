use Rattle.shrink_verify_laws.proofs.Proving.{own_files_are_proved}
use Rattle.shrink_verify_laws.proofs.laws.own_files_are_proved.Goals as goal

pub returns : goal.returns
returns c = own_files_are_proved c.own_outputs_are_proved.ensures
