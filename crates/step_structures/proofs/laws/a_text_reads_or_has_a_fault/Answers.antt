use Rattle.step_structures.proofs.EachText.{reads_or_fails}
use Rattle.step_structures.proofs.laws.a_text_reads_or_has_a_fault.Goals as goal

pub returns : goal.returns
returns c = reads_or_fails
