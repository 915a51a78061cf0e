use Rattle.conformance.proofs.MeaningOneness.{domain_rules_are_one}
use Rattle.conformance.proofs.meaning_laws.domain_rules_are_one.Goals as goal

pub returns : goal.returns
returns c = domain_rules_are_one
