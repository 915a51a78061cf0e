use Rattle.step_structures.proofs.Once.{reads_once}
use Rattle.step_structures.proofs.laws.a_text_reads_once.Goals as goal

pub returns : goal.returns
returns c = reads_once
