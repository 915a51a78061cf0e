use Rattle.conformance.proofs.Pinning.{elements_are_told_apart}
use Rattle.conformance.proofs.rule_laws.elements_are_told_apart.Goals as goal

pub returns : goal.returns
returns c = elements_are_told_apart
