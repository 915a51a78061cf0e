use Rattle.std.proofs.Common.{OnOk, subst, sym}
use Rattle.express_syntax.specs.Views.{declaration_of}
use Rattle.schema_semantics.specs.Parts.{parts_of_declaration}
use Rattle.schema_names.specs.Numbers.{IsAt}
use Rattle.schema_attribute_references.specs.steps.Taking.{schema_in}
use Rattle.schema_unchecked_declarations.specs.UncheckedLists.{Adds, unchecked_in}
use Rattle.schema_unchecked.proofs.declarations.add_declaration.Goals as goal

pub add_type-requires-clause-at : goal.add_type-requires-clause-at
add_type-requires-clause-at c =
    subst (λ d. IsAt (schema_in c.args.findings.now.known) c.args.number (declaration_of d)) c.in-Type.is c.requires.at

pub add_entity-requires-clause-at : goal.add_entity-requires-clause-at
add_entity-requires-clause-at c =
    subst (λ d. IsAt (schema_in c.args.findings.now.known) c.args.number (declaration_of d)) c.in-Entity.is
    c.requires.at

pub returns-in-Type : goal.returns-in-Type
returns-in-Type c =
    subst (λ d. OnOk c.add_type.result (Adds (parts_of_declaration (schema_in c.args.findings.now.known) (declaration_of d))
    (unchecked_in c.args.list.now.items) (unchecked_in c.add_type.new.list.items))) (sym c.in-Type.is) c.add_type.ensures

pub returns-in-Entity : goal.returns-in-Entity
returns-in-Entity c =
    subst (λ d. OnOk c.add_entity.result (Adds (parts_of_declaration (schema_in c.args.findings.now.known) (declaration_of d))
    (unchecked_in c.args.list.now.items) (unchecked_in c.add_entity.new.list.items))) (sym c.in-Entity.is)
    c.add_entity.ensures

pub returns-in-Skipped : goal.returns-in-Skipped
returns-in-Skipped c =
    subst (λ d. OnOk c.add_skipped.result (Adds (parts_of_declaration (schema_in c.args.findings.now.known) (declaration_of d))
    (unchecked_in c.args.list.now.items) (unchecked_in c.add_skipped.new.list.items))) (sym c.in-Skipped.is)
    c.add_skipped.ensures
