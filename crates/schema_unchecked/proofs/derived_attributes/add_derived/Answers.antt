use Rattle.std.proofs.Common.{◌≡◌, ◌∷◌, [], ◌++◌, OnOk, subst}
use Rattle.std.proofs.lemmas.Result.{on_ok_weaker}
use Rattle.express_syntax.specs.ExpressionViews.{capitals}
use Rattle.express_syntax.specs.Views.{derived_of}
use Rattle.schema_semantics.specs.declared.unchecked.PartKind.TheVariants as parts
use Rattle.schema_semantics.specs.Ranks.{Self, HasReason}
use Rattle.schema_semantics.specs.Parts.{Candidate, attribute_label, parts_of_data_type}
use Rattle.schema_attribute_references.specs.steps.Taking.{schema_in}
use Rattle.schema_unchecked_declarations.specs.UncheckedLists.{Adds, unchecked_in}
use Rattle.schema_unchecked_declarations.proofs.Joining.{adds-joined}
use Rattle.schema_unchecked.specs.steps.Listing.{given}
use Rattle.schema_unchecked.proofs.Reasoned.{adds-given}
use Rattle.schema_unchecked.proofs.derived_attributes.add_derived.Goals as goal

pub returns : goal.returns
returns c n numbered is =
    let h = capitals c.args.holder in
    let d = derived_of c.args.derived.now in
    let l = attribute_label h d.attribute in
    let old = unchecked_in c.args.list.now.items in
    let mid = unchecked_in c.add_for.new.list.items in
    let new = unchecked_in c.add_data_type.new.list.items in
    let x : Candidate = record {
      kind = parts.Derive;
      name = l;
      has_reason = HasReason (schema_in c.args.findings.now.known) (Self h) d.body;
    } in
    on_ok_weaker c.add_data_type.result
    (adds-joined (x ∷ []) (parts_of_data_type l d.data_type) old mid new
    (adds-given x c.reason_of_derived-reason.result old mid (c.reason_of_derived-reason.ensures (h, n) d numbered is)
    (subst (λ m. mid ≡ old ++ given parts.Derive m c.reason_of_derived-reason.result) c.attribute_label-label.ensures
    c.in_ok-add_for.ensures)))
    (subst (λ m. OnOk c.add_data_type.result (Adds (parts_of_data_type m d.data_type) mid new))
    c.attribute_label-label.ensures c.add_data_type.ensures)
