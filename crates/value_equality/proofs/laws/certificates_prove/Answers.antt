use Rattle.value_equality.proofs.Outputs.{certificates_prove}
use Rattle.value_equality.proofs.laws.certificates_prove.Goals as goal

pub returns : goal.returns
returns c = certificates_prove
