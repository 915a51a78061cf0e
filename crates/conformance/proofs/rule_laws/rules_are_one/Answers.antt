use Rattle.conformance.proofs.RuleOneness.{rules_are_one}
use Rattle.conformance.proofs.rule_laws.rules_are_one.Goals as goal

pub returns : goal.returns
returns c = rules_are_one
