use Rattle.std.proofs.Common.{OnOk, refl, subst}
use Rattle.std.proofs.lemmas.Result.{on_ok_weaker}
use Rattle.express_syntax.specs.Schemas.{entity}
use Rattle.express_syntax.specs.Views.{entity_of, rule_of, unique_of}
use Rattle.schema_semantics.specs.Names.{listed}
use Rattle.schema_semantics.specs.Ranks.{Self, HasReason}
use Rattle.schema_semantics.specs.Parts.{parts_of_rules, parts_of_uniques}
use Rattle.schema_names.proofs.Clauses.{clause-listed}
use Rattle.schema_attribute_references.specs.steps.Taking.{schema_in}
use Rattle.schema_unchecked_declarations.specs.UncheckedLists.{Adds, unchecked_in}
use Rattle.schema_unchecked_declarations.proofs.Joining.{adds-joined}
use Rattle.schema_unchecked.proofs.Standing.{number-here, stands-here}
use Rattle.schema_unchecked.proofs.declarations.add_constraints.Goals as goal

pub add_uniques-requires-clause-number : goal.add_uniques-requires-clause-number
add_uniques-requires-clause-number c =
    let e = entity_of c.args.entity.now in
    number-here (schema_in c.args.findings.now.known) c.requires.found.known.resolved c.args.number (entity e) e.name
    c.requires.at refl

pub add_uniques-requires-clause-entity : goal.add_uniques-requires-clause-entity
add_uniques-requires-clause-entity c =
    let e = entity_of c.args.entity.now in (
      e,
      stands-here (schema_in c.args.findings.now.known) c.requires.found.known.resolved c.args.number (entity e) e.name
          c.requires.at refl,
    )

pub add_entity_rules-requires-clause-number : goal.add_entity_rules-requires-clause-number
add_entity_rules-requires-clause-number c =
    let e = entity_of c.args.entity.now in
    number-here (schema_in c.args.findings.now.known) c.requires.found.known.resolved c.args.number (entity e) e.name
    c.requires.at refl

pub returns : goal.returns
returns c =
    let s = schema_in c.args.findings.now.known in
    let e = entity_of c.args.entity.now in
    let old = unchecked_in c.args.list.now.items in
    let mid = unchecked_in c.add_uniques.new.list.items in
    let new = unchecked_in c.add_entity_rules.new.list.items in
    let has = HasReason s (Self e.name) in
    on_ok_weaker c.add_entity_rules.result
    (adds-joined (parts_of_uniques s e.name 1 (listed e.uniques)) (parts_of_rules e.name has 1 (listed e.rules)) old mid
    new
    (subst (λ us. Adds (parts_of_uniques s e.name 1 us) old mid)
    (clause-listed unique_of c.args.entity.now.uniques c.uniqueness_rules.result.now c.uniqueness_rules.ensures)
    c.in_ok-add_uniques.ensures))
    (subst (λ rs. OnOk c.add_entity_rules.result (Adds (parts_of_rules e.name has 1 rs) mid new))
    (clause-listed rule_of c.args.entity.now.rules c.domain_rules.result.now c.domain_rules.ensures)
    c.add_entity_rules.ensures)
