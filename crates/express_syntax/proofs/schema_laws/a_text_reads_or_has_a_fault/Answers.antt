use Rattle.express_syntax.proofs.EachText.{reads_or_fails}
use Rattle.express_syntax.proofs.schema_laws.a_text_reads_or_has_a_fault.Goals as goal

pub returns : goal.returns
returns c = reads_or_fails
