use Rattle.express_syntax.proofs.FirstFault.{one_fault}
use Rattle.express_syntax.proofs.schema_laws.a_text_has_one_first_fault.Goals as goal

pub returns : goal.returns
returns c = one_fault
