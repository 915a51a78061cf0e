use Rattle.step_structures.proofs.Once.{reads_no_fault}
use Rattle.step_structures.proofs.laws.what_reads_has_no_fault.Goals as goal

pub returns : goal.returns
returns c = reads_no_fault
