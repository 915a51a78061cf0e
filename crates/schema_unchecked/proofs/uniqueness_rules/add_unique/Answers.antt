use Rattle.std.proofs.Common.{◌≡◌, ◌++◌, map, subst, sym}
use Rattle.std.proofs.lemmas.Result.{on_ok_weaker}
use Rattle.express_syntax.specs.ExpressionViews.{capitals}
use Rattle.express_syntax.specs.Views.{if_some, attribute_of}
use Rattle.schema_semantics.specs.declared.unchecked.PartKind.TheVariants as parts
use Rattle.schema_semantics.specs.Parts.{Candidate, UniqueHasReason, dotted, label_of}
use Rattle.schema_unchecked.specs.steps.Judging.{IsFirstReason}
use Rattle.schema_unchecked_declarations.specs.UncheckedLists.{unchecked_in}
use Rattle.schema_unchecked.specs.steps.Listing.{given}
use Rattle.schema_attribute_references.specs.steps.Naming.{IsNaming}
use Rattle.schema_attribute_references.specs.steps.Taking.{schema_in}
use Rattle.schema_unchecked.proofs.Reasoned.{adds-given}
use Rattle.schema_unchecked.proofs.Told.{unique-reason}
use Rattle.schema_unchecked.proofs.uniqueness_rules.add_unique.Goals as goal

pub returns : goal.returns
returns c =
    let s = schema_in c.args.findings.now.known in
    let h = capitals c.args.holder.name in
    let old = unchecked_in c.args.list.now.items in
    let new = unchecked_in c.add_for.new.list.items in
    let u = c.args.unique.now in
    let xs = map attribute_of u.attributes.items in
    let o = c.reason_by.result in
    let x : Candidate = record {
      kind = parts.Unique;
      name = dotted h (label_of c.args.number (if_some capitals u.label));
      has_reason = UniqueHasReason s h xs;
    } in
    let first =
    subst (IsFirstReason (UniqueHasReason s h xs)) (sym c.reason_by.ensures)
    (unique-reason s h xs c.in_ok-naming.naming
    (subst (λ ys. IsNaming s h (map attribute_of ys) c.in_ok-naming.naming) c.deref.ensures.value
    (c.in_ok-naming.ensures h c.requires.number c.requires.entity))) in
    on_ok_weaker c.add_for.result
    (λ is. adds-given x o old new first
    (subst (λ m. new ≡ old ++ given parts.Unique m o) c.rule_label-label.ensures is))
    c.add_for.ensures
