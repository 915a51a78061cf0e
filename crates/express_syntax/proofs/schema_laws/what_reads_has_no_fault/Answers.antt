use Rattle.express_syntax.proofs.FirstFault.{reads_no_fault}
use Rattle.express_syntax.proofs.schema_laws.what_reads_has_no_fault.Goals as goal

pub returns : goal.returns
returns c = reads_no_fault
