use Rattle.conformance.proofs.Apart.{gentle_pins_keep_apart}
use Rattle.conformance.proofs.rule_laws.gentle_pins_keep_apart.Goals as goal

pub returns : goal.returns
returns c = gentle_pins_keep_apart
