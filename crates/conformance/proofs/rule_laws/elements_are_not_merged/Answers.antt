use Rattle.conformance.proofs.Pinning.{elements_are_not_merged}
use Rattle.conformance.proofs.rule_laws.elements_are_not_merged.Goals as goal

pub returns : goal.returns
returns c = elements_are_not_merged
