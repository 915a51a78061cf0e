use Rattle.conformance.proofs.Pinning.{bag_references_are_pinned}
use Rattle.conformance.proofs.rule_laws.bag_references_are_pinned.Goals as goal

pub returns : goal.returns
returns c = bag_references_are_pinned
