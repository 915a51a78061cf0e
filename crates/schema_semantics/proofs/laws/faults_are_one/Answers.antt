use Rattle.schema_semantics.proofs.Faults.{faults-are-one}
use Rattle.schema_semantics.proofs.laws.faults_are_one.Goals as goal

pub returns : goal.returns
returns c = faults-are-one
