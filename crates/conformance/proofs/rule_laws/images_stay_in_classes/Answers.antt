use Rattle.conformance.proofs.Pinning.{images_stay_in_classes}
use Rattle.conformance.proofs.rule_laws.images_stay_in_classes.Goals as goal

pub returns : goal.returns
returns c = images_stay_in_classes
