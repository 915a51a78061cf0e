use Rattle.step_structures.proofs.MergedReads.{merged_text_reads}
use Rattle.step_structures.proofs.merged_text_laws.merged_text_reads.Goals as goal

pub returns : goal.returns
returns c = merged_text_reads
