use Rattle.conformance.proofs.Saying.{no_finding_exactly_where_no_rule_is_false}
use Rattle.conformance.proofs.meaning_laws.no_finding_exactly_where_no_rule_is_false.Goals as goal

pub returns : goal.returns
returns c = no_finding_exactly_where_no_rule_is_false
