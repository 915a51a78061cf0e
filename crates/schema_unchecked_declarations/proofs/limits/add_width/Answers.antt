use Rattle.std.proofs.Common.{OnOk, subst, sym, rules}
use Rattle.std.proofs.lemmas.Result.{on_ok_weaker}
use Rattle.express_syntax.specs.Views.{width_of}
use Rattle.schema_semantics.specs.declared.unchecked.PartKind.TheVariants as parts
use Rattle.schema_semantics.specs.declared.unchecked.Reason.TheVariants as reasons
use Rattle.schema_semantics.specs.Parts.{parts_of_width}
use Rattle.schema_unchecked_declarations.specs.UncheckedLists.{Adds, label_name, unchecked_in}
use Rattle.schema_unchecked_declarations.proofs.Joining.{adds-part}
use Rattle.schema_unchecked_declarations.proofs.Listing.{width-unlisted, width-listed}
use Rattle.schema_unchecked_declarations.proofs.limits.add_width.Goals as goal

pub returns-in-Some : goal.returns-in-Some
returns-in-Some c =
    let us = unchecked_in c.args.list.now.items in
    subst (λ w. Adds (parts_of_width (label_name c.args.label) (width_of w)) us us) (sym c.in-Value.is)
    (width-unlisted (label_name c.args.label) c.in-Value.digits.text.now c.in-Some.field-0 us (search rules)
    c.in-Some.ensures)

pub returns-in-None : goal.returns-in-None
returns-in-None c =
    let n = label_name c.args.label in
    let old = unchecked_in c.args.list.now.items in
    let new = unchecked_in c.add_part.new.list.items in
    subst (λ w. OnOk c.add_part.result (Adds (parts_of_width n (width_of w)) old new)) (sym c.in-Value.is)
    (on_ok_weaker c.add_part.result (width-listed n c.in-Value.digits.text.now old new c.in-None.ensures)
    c.add_part.ensures)

pub returns-in-Other : goal.returns-in-Other
returns-in-Other c =
    let n = label_name c.args.label in
    let old = unchecked_in c.args.list.now.items in
    let new = unchecked_in c.add_part-in-Other.new.list.items in
    subst (λ w. OnOk c.add_part-in-Other.result (Adds (parts_of_width n (width_of w)) old new)) (sym c.in-Other.is)
    (on_ok_weaker c.add_part-in-Other.result (adds-part parts.Width n reasons.Profile (Unit {0}) old new tt)
    c.add_part-in-Other.ensures)
