use Rattle.conformance.proofs.Pinning.{gentle_pins_are_plain}
use Rattle.conformance.proofs.rule_laws.gentle_pins_are_plain.Goals as goal

pub returns : goal.returns
returns c = gentle_pins_are_plain
