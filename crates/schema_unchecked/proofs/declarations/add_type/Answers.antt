use Rattle.std.proofs.Common.{OnOk, refl, subst}
use Rattle.std.proofs.lemmas.Result.{on_ok_weaker}
use Rattle.express_syntax.specs.Schemas.{type, named}
use Rattle.express_syntax.specs.Views.{type_of, rule_of}
use Rattle.schema_semantics.specs.Names.{listed}
use Rattle.schema_semantics.specs.Parts.{parts_of_underlying, parts_of_rules, TypeRuleHasReason}
use Rattle.schema_names.proofs.Clauses.{clause-listed}
use Rattle.schema_attribute_references.specs.steps.Taking.{schema_in}
use Rattle.schema_unchecked_declarations.specs.UncheckedLists.{Adds, unchecked_in}
use Rattle.schema_unchecked_declarations.proofs.Joining.{adds-joined}
use Rattle.schema_unchecked.proofs.Standing.{number-here}
use Rattle.schema_unchecked.proofs.declarations.add_type.Goals as goal

pub add_type_rules-requires-clause-number : goal.add_type_rules-requires-clause-number
add_type_rules-requires-clause-number c =
    let t = type_of c.args.declared.now in
    number-here (schema_in c.args.findings.now.known) c.requires.found.known.resolved c.args.number (type t) t.name c.requires.at
    refl

pub returns : goal.returns
returns c =
    let s = schema_in c.args.findings.now.known in
    let t = type_of c.args.declared.now in
    let old = unchecked_in c.args.list.now.items in
    let mid = unchecked_in c.add_underlying.new.list.items in
    let new = unchecked_in c.add_type_rules.new.list.items in
    let has = TypeRuleHasReason s (named t.name) in
    on_ok_weaker c.add_type_rules.result
    (adds-joined (parts_of_underlying t.name t.underlying) (parts_of_rules t.name has 1 (listed t.rules)) old mid new
    c.in_ok-add_underlying.ensures)
    (subst (λ rs. OnOk c.add_type_rules.result (Adds (parts_of_rules t.name has 1 rs) mid new))
    (clause-listed rule_of c.args.declared.now.rules c.domain_rules.result.now c.domain_rules.ensures)
    c.add_type_rules.ensures)
