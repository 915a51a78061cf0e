use Rattle.conformance.proofs.There.{pinned_are_there}
use Rattle.conformance.proofs.rule_laws.pinned_are_there.Goals as goal

pub returns : goal.returns
returns c = pinned_are_there
