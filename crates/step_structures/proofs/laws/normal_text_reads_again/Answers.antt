use Rattle.step_structures.proofs.NormalReads.{normal_reads_again}
use Rattle.step_structures.proofs.laws.normal_text_reads_again.Goals as goal

pub returns : goal.returns
returns c = normal_reads_again
