use Rattle.std.proofs.Common.{OnOk, subst, sym}
use Rattle.std.proofs.lemmas.Result.{on_ok_weaker}
use Rattle.express_syntax.specs.ExpressionViews.{capitals}
use Rattle.express_syntax.specs.Views.{attribute_of}
use Rattle.schema_semantics.specs.declared.unchecked.PartKind.TheVariants as parts
use Rattle.schema_semantics.specs.declared.unchecked.Reason.TheVariants as reasons
use Rattle.schema_semantics.specs.Parts.{dotted, parts_of_redeclared, HasOtherShape}
use Rattle.schema_attribute_references.specs.steps.Taking.{schema_in}
use Rattle.schema_unchecked_declarations.specs.UncheckedLists.{Adds, unchecked_in}
use Rattle.schema_unchecked_declarations.proofs.Joining.{adds-none, adds-part, adds-unlisted}
use Rattle.schema_unchecked.proofs.explicit_attributes.add_redeclared.Goals as goal

pub returns-in-Unqualified : goal.returns-in-Unqualified
returns-in-Unqualified c k d =
    let us = unchecked_in c.args.list.now.items in
    subst (λ a. Adds (parts_of_redeclared (schema_in c.args.findings.now.known) (capitals c.args.holder) k (attribute_of a)) us us)
    (sym c.in-Unqualified.is) (adds-none us)

pub returns-then-not-has_other_shape : goal.returns-then-not-has_other_shape
returns-then-not-has_other_shape c k d =
    let s = schema_in c.args.findings.now.known in
    let h = capitals c.args.holder in
    let us = unchecked_in c.args.list.now.items in
    subst (λ a. Adds (parts_of_redeclared s h k (attribute_of a)) us us) (sym c.in-Redeclared.is)
    (adds-unlisted parts.Redeclared (dotted h (capitals c.in-Redeclared.name)) reasons.Profile _ us
    (λ m. let t = (c.has_other_shape.ensures k d).1 (subst (λ a. HasOtherShape s (attribute_of a) k)
    (sym c.in-Redeclared.is) m) in let f = c.if-not-has_other_shape.true in cc))

pub returns-else-not-has_other_shape : goal.returns-else-not-has_other_shape
returns-else-not-has_other_shape c k d =
    let s = schema_in c.args.findings.now.known in
    let h = capitals c.args.holder in
    let old = unchecked_in c.args.list.now.items in
    let new = unchecked_in c.add_part.new.list.items in
    subst (λ a. OnOk c.add_part.result (Adds (parts_of_redeclared s h k (attribute_of a)) old new))
    (sym c.in-Redeclared.is)
    (on_ok_weaker c.add_part.result
    (adds-part parts.Redeclared (dotted h (capitals c.in-Redeclared.name)) reasons.Profile _ old new
    (subst (λ a. HasOtherShape s (attribute_of a) k) c.in-Redeclared.is
    ((c.has_other_shape.ensures k d).0 c.if-not-has_other_shape.false))) c.add_part.ensures)
