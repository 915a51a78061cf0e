use Rattle.std.proofs.Common.{OnOk, [], ◌∷◌, subst, sym}
use Rattle.express_syntax.specs.Views.{declaration_of}
use Rattle.schema_names.specs.Numbers.{IsAt}
use Rattle.conformance.specs.DomainRules.{statements_in}
use Rattle.schema_attribute_references.specs.steps.Taking.{schema_in}
use Rattle.schema_domain_rules.specs.steps.Making.{Adds}
use Rattle.schema_domain_rules.proofs.Listing.{adds-none}
use Rattle.schema_domain_rules.proofs.list.add_declaration.Goals as goal

pub add_type-requires-clause-at : goal.add_type-requires-clause-at
add_type-requires-clause-at c =
    subst (λ d. IsAt (schema_in c.args.findings.now.known) c.args.number (declaration_of d)) c.in-Type.is c.requires.at

pub add_entity-requires-clause-at : goal.add_entity-requires-clause-at
add_entity-requires-clause-at c =
    subst (λ d. IsAt (schema_in c.args.findings.now.known) c.args.number (declaration_of d)) c.in-Entity.is
    c.requires.at

pub returns-in-Type : goal.returns-in-Type
returns-in-Type c =
    subst (λ d. OnOk c.add_type.result (Adds (schema_in c.args.findings.now.known)
    (statements_in (declaration_of d ∷ [])) c.args.rules.now.items c.add_type.new.rules.items))
    (sym c.in-Type.is) c.add_type.ensures

pub returns-in-Entity : goal.returns-in-Entity
returns-in-Entity c =
    subst (λ d. OnOk c.add_entity.result (Adds (schema_in c.args.findings.now.known)
    (statements_in (declaration_of d ∷ [])) c.args.rules.now.items c.add_entity.new.rules.items))
    (sym c.in-Entity.is) c.add_entity.ensures

pub returns-in-Skipped : goal.returns-in-Skipped
returns-in-Skipped c =
    subst (λ d. Adds (schema_in c.args.findings.now.known) (statements_in (declaration_of d ∷ []))
    c.args.rules.now.items c.args.rules.now.items) (sym c.in-Skipped.is)
    (adds-none (schema_in c.args.findings.now.known) c.args.rules.now.items)
