use Rattle.conformance.proofs.Counting.{references_are_counted}
use Rattle.conformance.proofs.rule_laws.references_are_counted.Goals as goal

pub returns : goal.returns
returns c = references_are_counted
