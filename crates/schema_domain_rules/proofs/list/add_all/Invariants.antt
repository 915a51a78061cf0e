use Rattle.std.proofs.Common.{map, take}
use Rattle.express_syntax.specs.Views.{declaration_of}
use Rattle.conformance.specs.DomainRules.{statements_in}
use Rattle.schema_attribute_references.specs.steps.Taking.{schema_in}
use Rattle.schema_domain_rules.specs.steps.Making.{Adds}
use Rattle.schema_domain_rules.proofs.list.add_all.Given as goal

abbrev pub invariant-loop-i : goal.invariant-loop-i
invariant-loop-i l =
    Adds (schema_in l.findings.known) (statements_in (map declaration_of (take l.i l.declarations)))
    l.initial.rules.items l.rules.items
