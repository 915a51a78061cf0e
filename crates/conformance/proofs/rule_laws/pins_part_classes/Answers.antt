use Rattle.conformance.proofs.Pinning.{pins_part_classes}
use Rattle.conformance.proofs.rule_laws.pins_part_classes.Goals as goal

pub returns : goal.returns
returns c = pins_part_classes
