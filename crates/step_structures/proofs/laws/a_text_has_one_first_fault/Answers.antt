use Rattle.step_structures.proofs.FirstFault.{one_fault}
use Rattle.step_structures.proofs.laws.a_text_has_one_first_fault.Goals as goal

pub returns : goal.returns
returns c = one_fault
