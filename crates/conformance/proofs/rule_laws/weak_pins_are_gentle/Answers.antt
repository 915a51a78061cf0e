use Rattle.conformance.proofs.Pinning.{weak_pins_are_gentle}
use Rattle.conformance.proofs.rule_laws.weak_pins_are_gentle.Goals as goal

pub returns : goal.returns
returns c = weak_pins_are_gentle
