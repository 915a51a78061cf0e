use Rattle.std.proofs.Common.{OnOk, refl, sym, subst}
use Rattle.std.proofs.lemmas.List.{append-nil}
use Rattle.express_syntax.specs.Schemas.{entity}
use Rattle.express_syntax.specs.Views.{entity_of, rule_of}
use Rattle.schema_semantics.specs.Names.{listed}
use Rattle.schema_names.proofs.Clauses.{clause-listed}
use Rattle.conformance.specs.DomainRules.{of_entity, domain_statements_from}
use Rattle.schema_attribute_references.specs.steps.Taking.{schema_in}
use Rattle.schema_domain_rules.specs.steps.Making.{Adds}
use Rattle.schema_domain_rules.proofs.Holding.{number-here}
use Rattle.schema_domain_rules.proofs.list.add_entity.Goals as goal

pub add_entity_rules-requires-clause-number : goal.add_entity_rules-requires-clause-number
add_entity_rules-requires-clause-number c =
    let d = entity_of c.args.entity.now in
    number-here (schema_in c.args.findings.now.known) c.requires.found.known.resolved c.args.number (entity d) d.name
    c.requires.at refl

pub returns : goal.returns
returns c =
    let s = schema_in c.args.findings.now.known in
    let d = entity_of c.args.entity.now in
    let old = c.args.rules.now.items in
    let new = c.add_entity_rules.new.rules.items in
    subst (λ xs. OnOk c.add_entity_rules.result (Adds s xs old new))
    (sym (append-nil (domain_statements_from (of_entity d.name) 1 (listed d.rules))))
    (subst (λ rs. OnOk c.add_entity_rules.result (Adds s (domain_statements_from (of_entity d.name) 1 rs) old new))
    (clause-listed rule_of c.args.entity.now.rules c.domain_rules.result.now c.domain_rules.ensures)
    c.add_entity_rules.ensures)
