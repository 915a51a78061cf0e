use Rattle.conformance.proofs.Outcomes.{images_keep_rules}
use Rattle.conformance.proofs.meaning_laws.images_keep_rules.Goals as goal

pub returns : goal.returns
returns c = images_keep_rules
