use Rattle.conformance.proofs.Written.{none_written}
use Rattle.conformance.proofs.value_laws.no_findings_in_rewritten.Goals as goal

pub returns : goal.returns
returns c = λ s d en are h others f g new e. none_written s d en h f g new are others e
