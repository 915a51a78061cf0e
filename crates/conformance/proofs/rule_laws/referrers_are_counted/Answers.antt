use Rattle.conformance.proofs.Counting.{referrers_are_counted}
use Rattle.conformance.proofs.rule_laws.referrers_are_counted.Goals as goal

pub returns : goal.returns
returns c = referrers_are_counted
