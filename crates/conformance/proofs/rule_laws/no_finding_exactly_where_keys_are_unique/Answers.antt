use Rattle.conformance.proofs.Keys.{no_finding_exactly_where_keys_are_unique}
use Rattle.conformance.proofs.rule_laws.no_finding_exactly_where_keys_are_unique.Goals as goal

pub returns : goal.returns
returns c = no_finding_exactly_where_keys_are_unique
