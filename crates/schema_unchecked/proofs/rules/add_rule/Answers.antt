use Rattle.std.proofs.Common.{◌≡◌, ◌++◌, subst}
use Rattle.std.proofs.lemmas.Result.{on_ok_weaker}
use Rattle.express_syntax.specs.ExpressionViews.{capitals}
use Rattle.express_syntax.specs.Views.{if_some, body_of}
use Rattle.schema_semantics.specs.declared.unchecked.PartKind.TheVariants as parts
use Rattle.schema_semantics.specs.Parts.{Candidate, dotted, label_of}
use Rattle.schema_attribute_references.specs.steps.Taking.{schema_in}
use Rattle.schema_unchecked_declarations.specs.UncheckedLists.{unchecked_in}
use Rattle.schema_unchecked.specs.steps.Listing.{given}
use Rattle.schema_unchecked.specs.steps.Rules.{has_reason}
use Rattle.schema_unchecked.proofs.Reasoned.{adds-given}
use Rattle.schema_unchecked.proofs.rules.add_rule.Goals as goal

pub returns : goal.returns
returns c =
    let old = unchecked_in c.args.list.now.items in
    let new = unchecked_in c.add_for.new.list.items in
    let r = c.args.rule.now in
    let x : Candidate = record {
      kind = parts.Where;
      name = dotted (capitals c.args.place.holder) (label_of c.args.place.number (if_some capitals r.label));
      has_reason = has_reason (schema_in c.args.findings.now.known) c.args.own (body_of r.body);
    } in
    on_ok_weaker c.add_for.result
    (λ is. adds-given x c.in_ok-reason.reason old new c.in_ok-reason.ensures
    (subst (λ m. new ≡ old ++ given parts.Where m c.in_ok-reason.reason) c.rule_label-label.ensures is))
    c.add_for.ensures
