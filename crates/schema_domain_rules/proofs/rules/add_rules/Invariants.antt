use Rattle.std.proofs.Common.{map, take}
use Rattle.express_syntax.specs.Views.{rule_of}
use Rattle.conformance.specs.DomainRules.{domain_statements_from}
use Rattle.schema_attribute_references.specs.steps.Taking.{schema_in}
use Rattle.schema_domain_rules.specs.RuleViews.{holder_seen}
use Rattle.schema_domain_rules.specs.steps.Making.{Adds}
use Rattle.schema_domain_rules.proofs.rules.add_rules.Given as goal

abbrev pub invariant-loop-i : goal.invariant-loop-i
invariant-loop-i l =
    Adds (schema_in l.findings.known)
    (domain_statements_from (holder_seen (schema_in l.findings.known) l.holder) 1 (map rule_of (take l.i l.written)))
    l.initial.rules.items l.rules.items
