use Rattle.std.proofs.Common.{OnOk, ◌++◌, append_assoc, subst, sym}
use Rattle.std.proofs.lemmas.Result.{on_ok_weaker}
use Rattle.express_syntax.specs.Views.{entity_of}
use Rattle.schema_semantics.specs.Names.{listed}
use Rattle.schema_semantics.specs.Ranks.{Self, HasReason}
use Rattle.schema_semantics.specs.Parts.{for_each, parts_of_supertype, parts_of_explicit, parts_of_derived, parts_of_inverse, parts_of_uniques, parts_of_rules}
use Rattle.schema_attribute_references.specs.steps.Taking.{schema_in}
use Rattle.schema_unchecked_declarations.specs.UncheckedLists.{Adds, unchecked_in}
use Rattle.schema_unchecked_declarations.proofs.Joining.{adds-joined}
use Rattle.schema_unchecked.specs.steps.Listing.{parts_of_constraints}
use Rattle.schema_unchecked.proofs.declarations.add_entity.Goals as goal

pub returns : goal.returns
returns c =
    let s = schema_in c.args.findings.now.known in
    let e = entity_of c.args.entity.now in
    let supers = parts_of_supertype e.name e.supertype in
    let explicits = for_each (parts_of_explicit s e.name) e.explicits in
    let deriveds = for_each (parts_of_derived s e.name) (listed e.derived) in
    let inverses = for_each (parts_of_inverse e.name) (listed e.inverses) in
    let a = unchecked_in c.args.list.now.items in
    let b = unchecked_in c.add_supertype.new.list.items in
    let d = unchecked_in c.add_explicit_attributes.new.list.items in
    let f = unchecked_in c.add_derived_attributes.new.list.items in
    let g = unchecked_in c.add_inverse_clause.new.list.items in
    let h = unchecked_in c.add_constraints.new.list.items in
    let up = adds-joined supers explicits a b d c.in_ok-add_supertype.ensures c.in_ok-add_explicit_attributes.ensures in
    let on = adds-joined (supers ++ explicits) deriveds a d f up c.in_ok-add_derived_attributes.ensures in
    let all = adds-joined (supers ++ explicits ++ deriveds) inverses a f g on c.in_ok-add_inverse_clause.ensures in
    subst (λ cs. OnOk c.add_constraints.result (Adds cs a h))
    (sym (append_assoc (supers ++ explicits ++ deriveds ++ inverses) (parts_of_uniques s e.name 1 (listed e.uniques))
    (parts_of_rules e.name (HasReason s (Self e.name)) 1 (listed e.rules))))
    (on_ok_weaker c.add_constraints.result
    (adds-joined (supers ++ explicits ++ deriveds ++ inverses) (parts_of_constraints s e) a g h all)
    c.add_constraints.ensures)
