use Rattle.conformance.proofs.Unbroken.{images_break_no_rule}
use Rattle.conformance.proofs.meaning_laws.images_break_no_rule.Goals as goal

pub returns : goal.returns
returns c = images_break_no_rule
