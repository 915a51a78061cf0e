use Rattle.certificate_text.proofs.Lining.{no_fault}
use Rattle.certificate_text.proofs.laws.certificates_have_no_fault.Goals as goal

pub returns : goal.returns
returns c = no_fault
