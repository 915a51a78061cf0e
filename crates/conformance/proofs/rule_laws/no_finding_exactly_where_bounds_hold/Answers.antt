use Rattle.conformance.proofs.Keys.{no_finding_exactly_where_bounds_hold}
use Rattle.conformance.proofs.rule_laws.no_finding_exactly_where_bounds_hold.Goals as goal

pub returns : goal.returns
returns c = no_finding_exactly_where_bounds_hold
